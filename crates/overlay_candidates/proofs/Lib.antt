pub mod WordLaws
pub mod NearLaws
