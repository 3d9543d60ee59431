pub mod Splices
pub mod Looking
pub mod Settling
pub mod Marks
