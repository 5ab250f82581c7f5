pub mod Collecting
pub mod Ending
pub mod Handshake
pub mod Inbox
pub mod Outbox
pub mod Response
pub mod Said
pub mod Streams
