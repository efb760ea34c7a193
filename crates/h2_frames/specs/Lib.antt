pub mod Numbers
pub mod Headers
pub mod Payloads
pub mod Frames
pub mod Spelling
pub mod Reading
pub mod Copied
pub mod Runs
