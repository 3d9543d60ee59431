pub mod Groups
pub mod Answers
pub mod Steps
pub mod Runs
pub mod Following
pub mod Memories
pub mod GroupFaults
pub mod Damaged
