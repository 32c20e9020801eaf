pub mod Calls
pub mod Days
pub mod Proved
