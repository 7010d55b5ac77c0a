pub mod Shows
pub mod Runs
pub mod Settles
pub mod Whole
