pub mod Keys
pub mod Place
