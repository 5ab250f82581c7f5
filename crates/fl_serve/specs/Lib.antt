pub mod Inside
pub mod Serve
