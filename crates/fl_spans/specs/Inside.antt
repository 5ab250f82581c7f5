-- What a walk along a row gathers. No public clause cites this module.
pub mod Walk
pub mod Kept
