pub mod Draft
pub mod Steps
pub mod Laws
pub mod Days
pub mod Example
