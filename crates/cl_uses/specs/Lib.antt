pub mod Table
pub mod Spots
pub mod Behind
pub mod Numbers
