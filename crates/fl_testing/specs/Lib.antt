pub mod Inside
pub mod Messages
pub mod Replies
pub mod Trouble
