pub mod Crossings
pub mod Levels
pub mod Placed
pub mod Uses
