pub mod Space
pub mod Plain
pub mod inner
