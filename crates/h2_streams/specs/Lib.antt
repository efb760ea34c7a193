pub mod Tables
pub mod Gaps
pub mod Changes
pub mod Rows
pub mod Settings
