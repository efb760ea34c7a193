pub mod Records
pub mod Reading
pub mod Cursor
pub mod Walk
pub mod Canonical
pub mod Parts
