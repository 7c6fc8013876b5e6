pub mod MergeRows
pub mod TakeOutSteps
