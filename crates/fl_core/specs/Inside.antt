pub mod Parts
pub mod Touched
