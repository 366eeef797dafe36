pub mod Digests
pub mod Lines
pub mod Places
pub mod Shown
