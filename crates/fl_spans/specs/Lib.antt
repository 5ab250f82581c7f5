pub mod Inside
pub mod Row
pub mod Rows
pub mod Spans
pub mod Stroke
