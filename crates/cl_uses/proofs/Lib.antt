pub mod Places
pub mod Kept
pub mod Behind
pub mod Numbers
pub mod Steps
