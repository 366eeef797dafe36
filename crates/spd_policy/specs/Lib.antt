pub mod Best
pub mod Choosing
