pub mod Table
pub mod Cells
pub mod Refusals
pub mod Edits
pub mod Overlay
pub mod Reading
