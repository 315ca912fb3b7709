pub mod Fields
pub mod Tags
