pub mod FillLaws
pub mod AnswerLaws
