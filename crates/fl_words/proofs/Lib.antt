pub mod WordLemmas
pub mod Letters
pub mod Numbers
pub mod Digits
pub mod Spaces
pub mod FirstWords
