pub mod Reading
pub mod Walked
pub mod Finding
pub mod Names
