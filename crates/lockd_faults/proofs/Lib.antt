pub mod EndingLemmas
pub mod LineLemmas
pub mod WriteLemmas
