-- How a table of locks is kept. No public clause cites these modules.
pub mod RunList
pub mod LockRows
pub mod Nearest
pub mod Owners
pub mod Contenders
