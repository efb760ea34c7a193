pub mod SettingLists
pub mod First
pub mod Cuts
pub mod Written
pub mod Padded
pub mod Copies
pub mod Spelled
