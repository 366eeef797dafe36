pub mod Values
pub mod Ruled
pub mod Told
pub mod Shown
pub mod Searching
