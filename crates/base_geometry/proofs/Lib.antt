pub mod BitLaws
pub mod Sums
pub mod Widths
