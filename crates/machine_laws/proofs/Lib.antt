pub mod Weights
pub mod Lowers
pub mod Raises
