pub mod Stops
pub mod Verdict
