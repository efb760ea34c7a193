pub mod Stages
pub mod Ruled
pub mod Counted
pub mod Given
