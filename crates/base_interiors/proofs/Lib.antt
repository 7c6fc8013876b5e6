pub mod HighLaws
pub mod RaisedLaws
pub mod InteriorsLaws
pub mod DifferencesExamples
