pub mod Endings
pub mod Bench
pub mod Inspect
