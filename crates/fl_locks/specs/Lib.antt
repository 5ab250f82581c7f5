pub mod LockRows
pub mod Names
pub mod Words
pub mod Cells
pub mod Table
pub mod Json
pub mod Inside
