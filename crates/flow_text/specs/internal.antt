pub mod TextWalk
pub mod TextState
pub mod StartSteps
pub mod Codes
