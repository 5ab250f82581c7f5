pub mod Body
pub mod Errno
pub mod OpKind
pub mod Name
pub mod Order
pub mod Sayable
