pub mod Places
mod Spread
pub mod Table
pub mod Searches
pub mod Behind
