-- What callers' proofs cite of the syntax: each file is written in just one way, or it has a first fault; and how a token shortens what is left.
pub use Rattle.spd_syntax.proofs.FileMoves.{written_no_fault}
pub use Rattle.spd_syntax.proofs.Accepted.{written_accepted}
pub use Rattle.spd_syntax.proofs.Unique.{written_once}
pub use Rattle.spd_syntax.proofs.Moves.{one_longer, word_longer}
