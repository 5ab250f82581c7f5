pub mod Among
pub mod Circles
pub mod Searches
pub mod Wishes
