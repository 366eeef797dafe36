-- What the contracts inside the crate speak of: the words' meaning so far, piece by piece.
pub mod Judging
