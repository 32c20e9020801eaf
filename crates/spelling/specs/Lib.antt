pub mod Spelling
pub mod Laws
