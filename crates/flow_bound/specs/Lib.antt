pub mod Totals
pub mod Neh
pub mod Insertion
pub mod Rooms
pub mod Taillard
pub mod Loads
pub mod Rest
pub mod internal
