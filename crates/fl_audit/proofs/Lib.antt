pub mod Following
pub mod Hearing
pub mod Joints
pub mod Listening
pub mod Newlines
pub mod OpeningLemmas
pub mod Wholes
pub mod Sequences
