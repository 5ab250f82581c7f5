pub mod Answered
pub mod Asked
pub mod Lists
pub mod Tolds
