mod Rows
pub mod Moves
mod TreeMoves
pub mod FileMoves
pub mod Accepted
pub mod Unique
mod FrontLaws
pub mod CallerLemmas
