pub mod Boxes
pub mod Near
