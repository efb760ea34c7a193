pub mod Feeding
pub mod Source
pub mod Stages
