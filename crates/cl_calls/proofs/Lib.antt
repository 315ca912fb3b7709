mod Circles
pub mod Filtered
