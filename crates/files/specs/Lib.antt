pub mod Words
pub mod Tokens
pub mod Names
pub mod Form
pub mod Lines
pub mod Steps
pub mod Reads
