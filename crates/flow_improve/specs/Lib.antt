pub mod Effort
pub mod internal
