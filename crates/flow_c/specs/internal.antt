pub mod Around
pub mod Parts
