mod PastWalks
pub mod Opening
pub mod Packing
pub mod Prefixes
pub mod Recalling
