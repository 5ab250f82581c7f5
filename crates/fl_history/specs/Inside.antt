pub mod Chunks
pub mod Entries
pub mod Records
