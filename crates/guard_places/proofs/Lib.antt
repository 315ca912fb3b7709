pub mod Inners
pub mod Placing
pub mod Signatures
pub mod Tabled
