pub mod Calls
pub mod Cycles
pub mod Signatures
