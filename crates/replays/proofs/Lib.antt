mod Waits
mod Stepping
mod Answering
mod Walking
mod Opening
mod Agreeing
mod Instructions
mod Replying
pub mod Promise
