pub mod ItemLaws
pub mod MaskLaws
pub mod LinkLaws
