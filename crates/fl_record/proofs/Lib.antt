mod Answering
mod Batches
mod Counts
mod Histories
mod Prefixes
mod Seating
