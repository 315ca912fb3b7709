pub mod Behind
pub mod Silent
pub mod Steps
