pub mod Arguments
pub mod Ends
pub mod Formats
pub mod Zero
