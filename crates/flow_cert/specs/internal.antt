pub mod Gathered
pub mod HeadingText
