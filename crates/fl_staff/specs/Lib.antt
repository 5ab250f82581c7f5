pub mod Closing
pub mod Inside
pub mod Served
