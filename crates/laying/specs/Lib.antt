pub mod Laying
pub mod Laws
