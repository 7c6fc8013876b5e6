pub mod FlipSteps
