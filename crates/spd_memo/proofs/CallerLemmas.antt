-- For crates above: what is kept after a look-up and after a put, and that the newest pairs stay.
pub use Rattle.spd_memo.proofs.KeptLaws.{Contains-answer, Contains-promoted_in, Contains-put}
pub use Rattle.spd_memo.proofs.NewestLaws.{keeps-not, newest-promoted, newest-put, length-promoted, length-put, SamePair, distinct-newest, distinct-with}
