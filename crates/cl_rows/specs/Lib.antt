pub mod Bytes
pub mod Capped
pub mod Marks
pub mod Rows
pub mod Table
pub mod Wide
