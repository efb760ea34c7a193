pub mod Choosing
pub mod Asking
pub mod Reading
pub mod Hearing
pub mod Grows
