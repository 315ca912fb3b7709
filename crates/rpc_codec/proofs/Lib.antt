mod Bytes
mod Fields
pub mod Payloads
mod Ranges
mod Signatures
pub mod Structs
pub mod Under
