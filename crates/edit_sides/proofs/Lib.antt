pub mod RotationSteps
