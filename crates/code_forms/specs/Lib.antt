pub mod Layout
pub mod Pieces
pub mod Lowering
pub mod Printing
pub mod Statements
pub mod Functions
pub mod Images
