pub mod Dimensions
pub mod Places
