-- What a session keeps while it is under way. No contract of a public function cites these definitions.
pub mod Listing
pub mod Serving
pub mod UnderWay
