pub mod BeforeLemmas
pub mod BehindLemmas
pub mod Stored
