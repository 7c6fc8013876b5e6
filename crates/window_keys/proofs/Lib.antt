pub mod KeyBits
pub mod BeyondLaws
