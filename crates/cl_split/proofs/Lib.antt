pub mod Answered
mod Calling
pub mod Lines
mod Given
mod Laws
pub mod Refused
mod Steps
