pub mod Examples
pub mod LargeExamples
