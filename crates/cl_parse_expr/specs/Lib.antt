pub mod Cursor
pub mod Types
pub mod Reading
