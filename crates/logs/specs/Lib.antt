pub mod Walk
pub mod Session
pub mod Arcs
pub mod Lawful
pub mod WriteOut
pub mod RoundTrip
