pub mod SplitLaws
