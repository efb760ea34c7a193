pub mod Bytes
pub mod Reading
pub mod Lines
pub mod Heads
pub mod Bodies
pub mod Reads
pub mod Reader
pub mod Wire
