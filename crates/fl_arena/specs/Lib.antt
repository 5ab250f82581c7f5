pub mod Chains
pub mod Cursors
pub mod Inside
pub mod Lending
