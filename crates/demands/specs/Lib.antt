pub mod Demands
pub mod Proved
