pub mod Pieced
pub mod Streams
pub mod Inside
