pub mod NeighbourSteps
pub mod SideSplitSteps
