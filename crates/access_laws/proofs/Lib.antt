pub mod Recalling
pub mod Ordering
pub mod Giving
