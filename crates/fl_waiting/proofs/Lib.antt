pub mod Behind
pub mod Chain
pub mod Claims
pub mod Copies
pub mod Counts
pub mod First
pub mod Waiters
