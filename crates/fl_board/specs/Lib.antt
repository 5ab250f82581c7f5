pub mod Refused
pub mod Shown
pub mod Inside
