pub mod Caps
pub mod Known
pub mod Overs
