pub mod Alike
pub mod Runs
pub mod Frames
pub mod Apart
