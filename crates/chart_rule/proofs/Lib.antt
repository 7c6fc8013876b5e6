pub mod ChainLaws
pub mod PartLaws
