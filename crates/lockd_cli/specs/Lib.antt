pub mod Inside
pub mod Numbers
pub mod Said
pub mod Version
