pub mod Steps
pub mod Sound
pub mod Calling
pub mod Becomes
pub mod Feeding
pub mod Rooms
