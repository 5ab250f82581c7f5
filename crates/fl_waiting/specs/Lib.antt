pub mod Circle
pub mod Inside
pub mod Limits
pub mod LockRequest
pub mod Waiting
pub mod Wanted
pub use Rattle.fl_arena.specs.Chains
