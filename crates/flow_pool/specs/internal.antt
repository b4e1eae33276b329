pub mod HubSteps
pub mod Start
pub mod Settling
pub mod Runs
