pub mod Steps
pub mod Recordings
