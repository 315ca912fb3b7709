pub mod Lines
pub mod Settings
pub mod Views
pub mod Words
