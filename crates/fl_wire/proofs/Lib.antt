pub mod Appending
pub mod BatchMessages
pub mod Batches
pub mod Listings
pub mod Messages
pub mod Numbers
pub mod Replies
