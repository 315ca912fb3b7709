mod Called
mod Caps
mod Marked
mod Ordered
pub mod Payloads
mod Ready
mod Sums
pub mod Unique
