pub mod SquareLaws
pub mod ZOrderLaws
pub mod SquareLeavesLaws
pub mod SideLaws
pub mod QuarterLaws
pub mod KeySquareLaws
pub mod Examples
pub mod LargeExamples
