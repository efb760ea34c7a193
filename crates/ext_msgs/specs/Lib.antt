pub mod Spelling
pub mod Fields
pub mod MessageFault
pub mod MessageValue
pub mod Messages
pub mod Parts
pub mod Writable
