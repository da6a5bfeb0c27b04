pub mod Degrees
pub mod Outcomes
pub mod Steps
pub mod Terms
