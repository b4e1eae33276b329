pub mod Transposed
pub mod Same
