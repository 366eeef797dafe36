pub mod Writing
pub mod Summary
pub mod Failure
pub mod inner
