pub mod Pieces
pub mod Steps
pub mod Replies
pub mod Taken
pub mod Found
pub mod Paces
