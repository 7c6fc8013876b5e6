pub mod FaultyLaws
pub mod GivenLaws
pub mod LoadLaws
