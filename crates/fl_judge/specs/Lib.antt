pub mod Difference
pub mod Hearing
pub mod Inside
pub mod Present
pub mod Quiet
pub mod Verdicts
