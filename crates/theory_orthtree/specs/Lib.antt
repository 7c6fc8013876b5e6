pub mod Morton
pub mod Leaves
pub mod Entries
pub mod KeyCells
