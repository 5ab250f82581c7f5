mod AskedLemmas
mod RefusedLemmas
