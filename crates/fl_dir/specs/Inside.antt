-- How a directory is kept. No public clause cites this module.
pub mod Kept
pub mod Next
pub mod Numbers
pub mod Spread
