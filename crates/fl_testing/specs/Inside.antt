-- What is read off stored texts. No contract of a public function cites these definitions.
pub mod Stored
