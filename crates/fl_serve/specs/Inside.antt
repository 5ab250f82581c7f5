-- What a board says of its seats, and the result of a session. No contract of a public function cites these definitions.
pub mod Closing
pub mod Seated
