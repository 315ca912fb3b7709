pub mod Admissions
pub mod Judged
pub mod Answer
