pub mod ListLemmas
pub mod SeatLemmas
