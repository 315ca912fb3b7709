pub mod Cutting
pub mod Parts
pub mod Wanting
pub mod Worked
