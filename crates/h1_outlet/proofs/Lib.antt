pub mod PartBytes
pub mod Refilled
pub mod Giving
pub mod Putting
pub mod FieldSizes
pub mod OfHalves
