pub mod Evaluate
pub mod BufferExamples
pub mod CallExamples
pub mod LargeExamples
pub mod WholeNumbers
pub mod SameListsLaws
