-- What is under way. No contract of a public function cites these definitions.
pub mod Lists
pub mod Receiving
