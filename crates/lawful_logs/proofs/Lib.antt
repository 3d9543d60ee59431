mod Candidates
mod Arcs
pub mod Orderly
