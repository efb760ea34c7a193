pub mod FieldsLeft
pub mod Capped
pub mod Digits
