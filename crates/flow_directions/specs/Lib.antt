pub mod News
pub mod Search
pub mod internal
