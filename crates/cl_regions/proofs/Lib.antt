pub mod Bags
pub mod Aheads
pub mod Steps
pub mod Marking
pub mod Ones
