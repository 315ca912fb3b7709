pub mod Turns
pub mod Shapes
pub mod Marks
pub mod TypeNames
pub mod First
pub mod Sound
pub mod Complete
