pub mod Standing
pub mod Typed
pub mod Sized
pub mod Listed
pub mod Meant
pub mod Named
