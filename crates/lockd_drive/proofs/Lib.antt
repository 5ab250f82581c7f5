pub mod ActionLemmas
pub mod DriveLemmas
pub mod ExchangeLemmas
pub mod FillLemmas
