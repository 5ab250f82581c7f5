pub mod Codes
pub mod LockTable
pub mod Placing
pub mod Layout
pub mod Setting
pub mod Inside
pub use Rattle.fl_spans.specs.Rows
