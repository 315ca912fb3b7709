pub mod Heads
pub mod Params
pub mod Parts
