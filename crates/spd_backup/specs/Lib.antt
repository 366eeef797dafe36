pub mod Expected
pub mod Thawing
pub mod FromBuilt
pub mod Keeping
pub mod Making
pub mod Free
pub mod Exact
