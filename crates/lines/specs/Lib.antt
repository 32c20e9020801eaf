pub mod Machine
pub mod OnSlots
pub mod Told
pub mod Exits
