pub mod Keys
pub mod Configured
pub mod Valid
