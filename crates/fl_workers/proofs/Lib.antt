pub mod Growing
pub mod HandedLemmas
pub mod ReceivingLemmas
pub mod BatchLemmas
pub mod DispatchLemmas
pub mod SenderLemmas
pub mod SentLemmas
pub mod WorkedLemmas
