pub mod Within
pub mod Fitting
