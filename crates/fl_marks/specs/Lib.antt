pub mod Marking
pub mod Blocker
pub mod Bytes
pub mod Conflict
pub mod Codes
pub mod Runs
pub mod HeldRuns
pub mod Change
