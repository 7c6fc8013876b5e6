pub mod Shape
pub mod Masks
