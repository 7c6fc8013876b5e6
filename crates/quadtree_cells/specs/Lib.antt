pub mod Stack
pub mod Quarters
pub mod Leaf
