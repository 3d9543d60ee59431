pub mod Readings
pub mod Steps
pub mod Ways
pub mod Runs
mod Stopping
pub mod Standing
pub mod Following
pub mod Memories
pub mod GroupFaults
pub mod FirstFaults
pub mod Damaged
mod Waiting
