pub mod Digits
pub mod Widest
