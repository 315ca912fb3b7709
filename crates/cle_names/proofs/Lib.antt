pub mod Readings
pub mod Lists
pub mod Walks
pub mod Numbers
pub mod Few
