pub mod Chosen
pub mod Calls
