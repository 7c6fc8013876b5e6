pub mod EndLaws
pub mod CoordinateLaws
pub mod StopLaws
