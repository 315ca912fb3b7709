pub mod Source
pub mod Stops
pub mod Answer
