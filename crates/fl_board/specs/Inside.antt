-- What lies under a board's lock. No contract of a public function cites this definition.
pub mod UnderLock
