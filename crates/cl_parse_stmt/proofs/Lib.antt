pub mod Turns
pub mod ItemTurns
pub mod Declared
pub mod Stated
pub mod Restated
pub mod Itemised
pub mod Reitemised
pub mod AllItems
