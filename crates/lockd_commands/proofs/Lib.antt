pub mod CheckLemmas
pub mod HexLemmas
pub mod LocksLemmas
pub mod ReplyLemmas
pub mod RowLemmas
pub mod ScriptLemmas
pub mod StateLemmas
