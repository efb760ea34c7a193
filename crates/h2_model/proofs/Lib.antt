pub mod Grows
pub mod Flows
pub mod Stays
pub mod Lives
