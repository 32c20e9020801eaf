pub mod Laid
pub mod Output
pub mod Numbers
