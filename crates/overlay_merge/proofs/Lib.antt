pub mod WalkLaws
pub mod EntryLaws
pub mod StepLaws
