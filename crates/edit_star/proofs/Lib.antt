pub mod AroundSteps
