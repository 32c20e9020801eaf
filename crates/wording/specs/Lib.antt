pub mod Wording
pub mod Held
pub mod Laws
