pub mod Declaring
pub mod Stating
pub mod Itemising
