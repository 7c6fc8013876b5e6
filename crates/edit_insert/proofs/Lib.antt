pub mod InsertSteps
