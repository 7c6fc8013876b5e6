pub mod Differences
pub mod Corners
