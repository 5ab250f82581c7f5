pub mod Asks
pub mod Inside
