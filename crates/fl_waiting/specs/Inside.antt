pub mod Claims
pub mod Counts
pub mod Copies
