pub mod Alike
pub mod Ending
pub mod Lists
pub mod Said
pub mod Served
pub mod Unserved
