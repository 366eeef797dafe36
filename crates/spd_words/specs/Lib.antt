pub mod Verbs
pub mod Values
pub mod Pieces
pub mod Standing
pub mod Commands
pub mod Inner
