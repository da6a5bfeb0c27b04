pub mod Lasts
pub mod Misplaced
pub mod Zeros
