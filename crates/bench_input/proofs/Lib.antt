pub mod Words
pub mod Sessions
pub mod Fitting
pub mod Laying
pub mod Finding
pub mod Refusals
pub mod WorkedTexts
