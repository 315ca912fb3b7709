pub mod Heads
pub mod Levels
pub mod Nine
pub mod Parts
pub mod Programs
pub mod Steps
pub mod Whole
