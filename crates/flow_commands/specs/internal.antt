pub mod Devices
pub mod Found
pub mod Given
pub mod Picked
pub mod Reading
