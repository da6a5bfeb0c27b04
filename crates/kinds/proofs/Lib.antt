pub mod Held
pub mod Bounds
pub mod Newed
pub mod Told
pub mod Modular
pub mod Wholes
pub mod Turned
