pub mod Faults
pub mod Trees
pub mod Models
pub mod Facts
pub mod Scopes
pub mod Saying
pub mod Reading
