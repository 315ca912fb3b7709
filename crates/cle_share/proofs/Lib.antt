pub mod Bearers
pub mod Firsts
pub mod Flags
pub mod Labels
pub mod Looks
pub mod Returned
