pub mod ByteLaws
pub mod WordLaws
