-- What a session with workers has before its first read. No contract of a public function cites these definitions.
pub mod Stocked
