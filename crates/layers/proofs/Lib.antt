pub mod Agreed
pub mod Kept
