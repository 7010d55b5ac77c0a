pub mod Moves
pub mod Steps
pub mod Starts
pub mod Endings
