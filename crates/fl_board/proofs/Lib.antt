mod Batches
mod Counts
mod Fronts
mod Prefixes
mod Refusing
