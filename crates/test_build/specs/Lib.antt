pub mod Buildable
