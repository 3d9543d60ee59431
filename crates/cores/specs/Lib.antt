pub mod Text
pub mod Script
pub mod Register
pub mod Memory
pub mod Acting
pub mod Latest
pub mod Items
