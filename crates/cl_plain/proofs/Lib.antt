pub mod Parts
pub mod Shapes
pub mod DeclarationParts
pub mod StatementParts
pub mod ItemParts
pub mod Differences
pub mod Numbers
pub mod Cuts
