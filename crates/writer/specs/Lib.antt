pub mod Refusals
pub mod Writes
pub mod Steps
pub mod Terms
