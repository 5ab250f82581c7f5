-- No public clause cites these modules.
pub mod Hearing
pub mod Keeping
pub mod Rowing
pub mod Seams
