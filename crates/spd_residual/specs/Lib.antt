pub mod Residual
pub mod inner
