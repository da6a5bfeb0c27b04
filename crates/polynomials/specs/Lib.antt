pub mod Module
pub mod Words
pub mod Series
pub mod Degrees
pub mod Parts
pub mod Symbols
pub mod Solving
