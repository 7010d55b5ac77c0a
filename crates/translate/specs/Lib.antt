pub mod Views
pub mod Sorts
pub mod Rooms
pub mod Loads
