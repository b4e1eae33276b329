pub mod Times
pub mod Places
pub mod Tables
pub mod Stairs
pub mod Texts
pub mod Rounds
