pub mod Cases
pub mod SpreadLaws
pub mod PassLaws
pub mod CellLaws
pub mod ListingLaws
pub mod PointLaws
pub mod PlaceLaws
pub mod Examples
