pub mod Piles
pub mod Rooms
