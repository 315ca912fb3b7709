pub mod Answer
pub mod Guards
pub mod Places
pub mod Policy
pub mod Text
