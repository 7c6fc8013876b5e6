pub mod Evaluate
pub mod LineExamples
pub mod CommandExamples
pub mod Examples
