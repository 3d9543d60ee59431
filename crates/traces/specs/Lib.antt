pub mod Trace
pub mod Recording
