pub mod Took
pub mod OnSlots
pub mod Code
pub mod Exits
