-- The word of a log.
-- No contract of a public function cites these definitions.
pub mod Counting
