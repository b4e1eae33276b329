pub mod Orders
pub mod Searches
pub mod Meanings
pub mod internal
