pub mod OuterLaws
pub mod CornerLaws
pub mod ListedLaws
