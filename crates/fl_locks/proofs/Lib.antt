pub mod Each
pub mod FirstPids
pub mod ByNode
pub mod RunsOn
pub mod WhoBlocks
pub mod Joins
pub mod Members
pub mod Widths
