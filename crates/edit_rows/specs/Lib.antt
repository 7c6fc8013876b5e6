pub mod Edited
pub mod Workspace
