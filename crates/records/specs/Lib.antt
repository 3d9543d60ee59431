pub mod Format
pub mod Faults
pub mod Settings
pub mod Reading
pub mod Writing
