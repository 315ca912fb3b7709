pub mod Brackets
pub mod First
pub mod Answer
pub mod Walk
