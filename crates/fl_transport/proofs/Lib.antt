pub mod BatchLemmas
pub mod InboxLemmas
pub mod WriteLemmas
