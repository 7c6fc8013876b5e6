pub mod WalkLaws
pub mod SquareWalk
pub mod QuarterWalk
pub mod WholeWalk
pub mod KeptLaws
pub mod PackableLaws
pub mod PackedLaws
