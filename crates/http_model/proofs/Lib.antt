pub mod Stable
pub mod LinesStable
pub mod HeadsStable
pub mod BodiesGrow
pub mod ReadsOn
pub mod Hexadecimal
