pub mod Ways
pub mod Carries
pub mod Flow
pub mod Programs
