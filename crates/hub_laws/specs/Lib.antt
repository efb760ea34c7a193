pub mod Outgoing
pub mod Windows
