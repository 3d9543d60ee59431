pub mod OneCore
pub mod Storing
pub mod LatestStore
pub mod Requests
mod ItemLaws
pub mod Surplus
