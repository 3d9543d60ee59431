pub mod Numbers
pub mod Session
pub mod Described
pub mod Answers
pub mod Worked
