pub mod Listed
pub mod Numbers
pub mod Placing
pub mod Walks
