pub mod GrowingLemmas
pub mod PartLemmas
pub mod ServingLemmas
