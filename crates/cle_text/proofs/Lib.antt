pub mod Each
pub mod Json
pub mod Arrays
pub mod Same
