pub mod Framed
pub mod Blocks
pub mod Reading
pub mod Keeping
pub mod Written
pub mod Items
pub mod Served
