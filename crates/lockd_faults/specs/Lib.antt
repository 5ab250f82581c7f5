pub mod Causes
pub mod Ending
pub mod Faults
pub mod HexLines
pub mod Status
