pub mod FinishLaws
pub mod OverlayLaws
