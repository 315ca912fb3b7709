pub mod Bearing
pub mod Chosen
mod Noted
