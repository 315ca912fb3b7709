pub mod Edges
pub mod Batches
pub mod Planted
pub mod Rows
pub mod Settled
pub mod Steps
