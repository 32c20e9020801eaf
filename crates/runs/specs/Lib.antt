pub mod Code
pub mod Reading
pub mod Finish
pub mod Resumed
