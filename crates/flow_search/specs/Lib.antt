pub mod Choices
pub mod Search
pub mod Plans
pub mod Outcomes
pub mod Verdicts
pub mod VersionLaws
pub mod Cuts
pub mod internal
