pub mod Sweeping
pub mod Filling
pub mod Telling
