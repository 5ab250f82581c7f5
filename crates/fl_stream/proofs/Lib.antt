pub mod PieceLemmas
pub mod TextPieces
pub mod Prefixes
pub mod Streaming
pub mod Places
pub mod Reading
