pub mod Channels
pub mod Ways
pub mod Takes
