-- How a desk tells a head. No contract of a public function cites these definitions.
pub mod Drafts
