pub mod Sized
pub mod Members
pub mod Places
pub mod Kept
pub mod Known
pub mod First
