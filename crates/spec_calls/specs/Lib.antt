pub mod Buffers
pub mod Calls
pub mod History
pub mod Lent
