pub mod Loans
pub mod Naming
