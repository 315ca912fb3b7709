pub mod Admitting
pub mod Exceeding
pub mod Least
pub mod Same
pub mod Answered
