pub mod Looking
pub mod Barren
pub mod Settling
