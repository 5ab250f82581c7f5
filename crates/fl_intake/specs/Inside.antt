-- What lies in the queue, and the queue's rule. No contract of a public function cites these definitions.
pub mod Boxed
pub mod Conserved
