pub mod Children
pub mod Spread
pub mod Small
pub mod Pairs
pub mod Passes
pub mod Bytes
pub mod Scan
