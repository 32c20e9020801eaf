pub mod Holds
pub mod Inside
pub mod Feed
pub mod Cap
pub mod Chunks
pub mod Code
pub mod Held
