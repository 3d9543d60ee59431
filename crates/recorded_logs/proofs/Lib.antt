mod Parts
pub mod Held
