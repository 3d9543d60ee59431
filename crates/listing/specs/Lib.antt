pub mod Lines
pub mod Faults
pub mod NextLines
pub mod Listing
pub mod Words
