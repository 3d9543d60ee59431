mod Judging
mod Turning
pub mod Tracking
mod Recording
mod Appending
pub mod Sessions
mod Refused
mod Exact
mod Surplus
pub mod ByTheRules
pub mod Decided
pub mod Feeding
