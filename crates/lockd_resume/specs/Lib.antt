pub mod Behind
pub mod Ending
pub mod Heard
pub mod Inside
pub mod Resumed
