pub mod Ends
pub mod Inside
pub mod Often
