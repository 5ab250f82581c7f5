pub mod LineWords
pub mod ReadBack
pub mod OneText
pub mod FirstWords
pub mod Reading
pub mod Newlines
pub mod Lengths
