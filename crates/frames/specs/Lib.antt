pub mod Frames
pub mod Hops
pub mod Layout
pub mod Slots
pub mod Chains
pub mod Displays
pub mod Memories
pub mod Passages
