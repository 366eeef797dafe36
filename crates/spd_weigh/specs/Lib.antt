pub mod Discounting
pub mod Leaves
pub mod Summed
pub mod Weighing
