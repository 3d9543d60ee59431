pub mod Texts
pub mod Records
pub mod Logs
pub mod Digits
