pub mod Certificates
pub mod Faults
pub mod Functions
pub mod Texts
pub mod inner
