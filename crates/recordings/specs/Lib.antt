pub mod Tracks
pub mod Sessions
pub mod Refused
pub mod Exact
pub mod Surplus
pub mod ByTheRules
pub mod Decided
