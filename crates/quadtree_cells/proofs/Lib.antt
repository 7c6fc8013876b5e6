pub mod StepLaws
pub mod StackLaws
pub mod ReadyLaws
pub mod LeafLaws
