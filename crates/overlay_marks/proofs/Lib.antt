pub mod BitLaws
pub mod BitsetsExamples
pub mod SetLaws
pub mod PairMarksExamples
