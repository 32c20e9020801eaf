pub mod Tests
pub mod Every
pub mod Exact
pub mod Reached
