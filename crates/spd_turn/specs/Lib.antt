pub mod Jobs
pub mod Waves
pub mod Backups
pub mod Turn
pub mod Parts
pub mod Attempts
pub mod Runs
