pub mod Outgoing
pub mod Queue
pub mod Places
pub mod Shares
pub mod Sending
