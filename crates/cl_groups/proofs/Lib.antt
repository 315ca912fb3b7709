pub mod Borne
pub mod Firsts
pub mod Groups
pub mod Limits
