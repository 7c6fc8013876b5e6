pub mod WroteLaws
pub mod PairLaws
pub mod PairsExamples
