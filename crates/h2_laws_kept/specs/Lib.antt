pub mod Kept
pub mod Rooms
pub mod StandsFor
pub mod Arriving
