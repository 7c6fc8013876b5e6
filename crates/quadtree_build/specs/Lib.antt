pub mod Build
pub mod Packed
