-- What the walks tell, and what is sought. No public clause cites these modules.
pub mod Saying
pub mod Seeking
