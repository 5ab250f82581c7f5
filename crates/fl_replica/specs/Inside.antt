-- What an update does to a copy, and what is published in the end.
-- No contract of a public function cites these definitions.
pub mod Updates
