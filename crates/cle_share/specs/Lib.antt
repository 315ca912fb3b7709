pub mod Bearings
pub mod Signatures
