pub mod Stood
pub mod Exits
