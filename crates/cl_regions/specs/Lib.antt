pub mod Few
pub mod Roles
pub mod Bag
pub mod Ahead
pub mod Walks
pub mod Marks
pub mod Chosen
