pub mod Unique
pub mod Kids
pub mod Completed
pub mod Thawed
pub mod Followed
