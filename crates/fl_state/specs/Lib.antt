pub mod Inside
pub mod Parts
pub mod Same
pub mod Telling
