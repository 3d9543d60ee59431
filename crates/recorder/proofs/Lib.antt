mod Counts
pub mod Trails
pub mod Passing
pub mod Rooms
mod Enters
mod Begins
pub mod Ways
pub mod Decided
