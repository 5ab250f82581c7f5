pub mod ChainLaws
mod ReadLemmas
mod PlaceLemmas
mod LinkLemmas
mod WalkLemmas
mod FreeLemmas
mod HeldLemmas
mod RelinkLemmas
mod AssembleLemmas
mod InsertLemmas
mod RemoveLemmas
mod ShiftLemmas
mod SetLemmas
mod NodeLemmas
mod CursorLemmas
mod CallLemmas
mod CountLemmas
mod FirstLemmas
