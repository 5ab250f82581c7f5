-- How an arena is kept. No public clause cites this module.
pub mod Held
pub mod Links
