pub mod Notation
pub mod Laws
pub mod Good
