pub mod Journal
pub mod Levels
pub mod Places
pub mod Rows
pub mod Sends
pub mod Start
