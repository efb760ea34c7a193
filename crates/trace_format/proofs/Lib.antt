pub mod Decimals
pub mod Parted
pub mod ReadBack
