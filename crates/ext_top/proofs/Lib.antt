pub mod Fronts
pub mod Plays
pub mod Firsts
pub mod Endings
pub mod Exchanges
pub mod ShownFrames
