pub mod Views
pub mod Spelling
pub mod Seats
pub mod Events
pub mod Invariants
