pub mod Texts
pub mod Arcs
pub mod Records
