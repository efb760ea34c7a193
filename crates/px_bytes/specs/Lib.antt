pub mod Queue
pub mod Fits
