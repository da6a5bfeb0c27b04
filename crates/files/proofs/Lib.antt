pub mod Tools
pub mod Grows
pub mod Scans
pub mod Stand
pub mod Rows
