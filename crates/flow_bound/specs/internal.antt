pub mod Times
pub mod Tails
