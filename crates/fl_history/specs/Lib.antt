pub mod Inside
pub mod Place
pub mod Recent
pub mod Stock
