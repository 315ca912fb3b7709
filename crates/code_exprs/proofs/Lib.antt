pub mod Wrote
pub mod Shapes
pub mod Holes
pub mod Arms
