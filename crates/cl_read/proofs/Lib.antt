pub mod One
pub mod Stopped
