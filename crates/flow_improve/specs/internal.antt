pub mod Rooms
pub mod Reaches
pub mod Beams
pub mod Opens
