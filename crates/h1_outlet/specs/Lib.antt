pub mod Ways
pub mod Parts
pub mod Outlets
pub mod Stands
pub mod Halves
