pub mod Foreign
pub mod Grounds
pub mod Marks
pub mod Own
pub mod Ties
