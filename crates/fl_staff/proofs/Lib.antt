pub mod CrewLemmas
pub mod EndLemmas
pub mod RestLemmas
