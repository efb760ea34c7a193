pub mod Places
pub mod Gaps
pub mod Kept
pub mod Accounted
pub mod Rows
