pub mod Deciding
pub mod Marking
