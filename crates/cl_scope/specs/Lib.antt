pub mod Table
pub mod Finds
pub mod Behind
