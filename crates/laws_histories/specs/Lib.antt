pub mod Histories
pub mod LeafCells
