pub mod Inputs
pub mod Obeyed
pub mod Status
pub mod Words
