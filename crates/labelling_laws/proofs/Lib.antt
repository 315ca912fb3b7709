pub mod Elements
pub mod Numbers
pub mod Definitions
pub mod Marks
pub mod Counts
pub mod Under
pub mod Tables
pub mod Functions
