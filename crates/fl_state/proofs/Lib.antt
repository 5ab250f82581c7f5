pub mod Entries
pub mod Parts
pub mod Restorings
pub mod Sayings
pub mod Seekings
pub mod Tellings
pub mod Walks
pub mod Wholes
