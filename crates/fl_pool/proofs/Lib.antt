pub mod RunningLemmas
pub mod WorkingLemmas
