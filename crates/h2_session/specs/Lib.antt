pub mod Accepting
pub mod Arrivals
pub mod Bytes
pub mod Feeding
pub mod Keeping
pub mod Refused
pub mod Steps
