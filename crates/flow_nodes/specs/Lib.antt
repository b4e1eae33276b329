pub mod Vectors
pub mod Nodes
pub mod Groups
pub mod Marks
pub mod PlainEnd
pub mod Packs
pub mod Open
pub mod internal
