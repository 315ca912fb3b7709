pub mod Capped
pub mod Known
pub mod Counts
