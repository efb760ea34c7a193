pub mod Hubs
pub mod Interleaved
pub mod NarrowWindow
pub mod LinkLost
