pub mod Evaluate
pub mod WindowExamples
