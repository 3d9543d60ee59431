pub mod Numbers
pub mod Rows
pub mod Calls
pub mod Decided
pub mod Vectors
