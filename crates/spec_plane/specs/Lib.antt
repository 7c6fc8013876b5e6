pub mod Point
pub mod Triangle
pub mod Position
pub mod Interior
pub mod Box
