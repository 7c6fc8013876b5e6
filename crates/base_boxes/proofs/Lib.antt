pub mod BoxesLaws
pub mod NearLaws
