pub mod AtRest
pub mod Shapes
pub mod Configured
pub mod Histories
pub mod May
