pub mod Hal
pub mod Take
pub mod Passing
