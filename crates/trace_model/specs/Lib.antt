pub mod Links
pub mod Rounds
pub mod Lines
pub mod Places
pub mod Verdicts
