pub mod Entry
pub mod Tested
pub mod Meaning
pub mod Shut
