pub mod Puts
pub mod Numbered
pub mod Graphs
pub mod Listing
pub mod Exactly
pub mod Locals
