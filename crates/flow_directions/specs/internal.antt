pub mod Left
pub mod Lists
pub mod Levels
pub mod Start
pub mod Outcomes
pub mod Tree
