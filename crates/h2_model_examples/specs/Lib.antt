pub mod Setting
pub mod Windows
pub mod Violations
pub mod StreamFaults
pub mod Outgoing
pub mod Decoded
