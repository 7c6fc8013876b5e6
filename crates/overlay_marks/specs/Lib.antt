pub mod Bits
pub mod PairMarks
