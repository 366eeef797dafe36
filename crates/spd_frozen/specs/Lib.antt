pub mod Nodes
pub mod Frozen
pub mod Mixed
pub mod Fits
pub mod Freezing
pub mod Thawing
pub mod Told
pub mod inner
