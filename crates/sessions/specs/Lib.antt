pub mod Replaying
pub mod Whole
pub mod Space
