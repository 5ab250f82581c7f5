mod Adding
mod Counts
mod Prefixes
