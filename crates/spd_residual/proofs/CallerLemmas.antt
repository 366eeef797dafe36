-- For crates above: that a value, the bounds of a process and their best may be taken for a residual, and go on to be so; and the gap
-- between two values.
pub use Rattle.spd_residual.proofs.GapLaws.{difference-agrees, difference-fits, valued-grows}
pub use Rattle.spd_residual.proofs.ProcessLaws.{best-after, best-of, bounds-ordered, ordered-grows, value-grows, value-of-state}
