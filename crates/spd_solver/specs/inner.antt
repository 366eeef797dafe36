-- What no public clause cites.
pub mod Stages
pub mod Checks
