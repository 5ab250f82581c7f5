pub mod Asks
pub mod Recorded
pub mod Seats
pub mod Shown
