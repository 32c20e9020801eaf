pub mod Code
pub mod Exits
