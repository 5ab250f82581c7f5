pub mod Audit
pub mod Details
pub mod First
pub mod Inside
pub mod Opening
pub mod Pieces
pub mod Rows
