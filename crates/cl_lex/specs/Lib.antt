pub mod Scans
pub mod Found
pub mod Laws
pub mod Worked
