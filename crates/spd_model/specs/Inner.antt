-- The inner room: definitions that no public clause cites.
pub mod Order
pub mod Chosen
