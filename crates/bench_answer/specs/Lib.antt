pub mod Answer
pub mod Told
