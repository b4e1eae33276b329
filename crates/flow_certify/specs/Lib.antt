pub mod Funds
pub mod Schedule
pub mod Searched
pub mod Signs
pub mod Tasks
pub mod internal
