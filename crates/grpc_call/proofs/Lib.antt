pub mod Prefixes
pub mod First
pub mod Numbers
pub mod Messages
pub mod Cuts
pub mod Told
pub mod Written
