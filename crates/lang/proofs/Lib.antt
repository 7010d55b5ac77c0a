pub mod Held
pub mod Padded
pub mod Scans
pub mod Sheets
