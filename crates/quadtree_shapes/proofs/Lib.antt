pub mod ShapeLaws
pub mod MaskLaws
