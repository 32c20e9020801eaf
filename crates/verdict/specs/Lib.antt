pub mod Look
pub mod Laws
pub mod Exits
