pub mod RowLaws
pub mod CopyLaws
