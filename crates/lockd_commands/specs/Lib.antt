pub mod Bytes
pub mod Check
pub mod Faults
pub mod Hex
pub mod Locks
pub mod Row
pub mod Script
pub mod State
