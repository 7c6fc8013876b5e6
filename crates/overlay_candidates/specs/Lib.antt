pub mod RowCandidates
