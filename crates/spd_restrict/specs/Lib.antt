pub mod Chosen
pub mod Primed
pub mod Replaced
pub mod Restricted
