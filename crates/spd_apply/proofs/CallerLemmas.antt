-- For crates above: halves of trees, operations that go down, what they make of whole entries, and what a memo holds after other calls.
pub use Rattle.spd_apply.proofs.AppliedLaws.{value_at-against}
pub use Rattle.spd_apply.proofs.HalfLaws.{Splits, aligned-from, eq-refl, not-before-at, not-before-from, not-before-lower, splits-at, splits-fits}
pub use Rattle.spd_apply.proofs.MeetingLaws.{GoesDown, Meets, descends, made-whole}
pub use Rattle.spd_apply.proofs.MemoLaws.{answers-grow}
pub use Rattle.spd_apply.proofs.PlanLaws.{MayMeetHalves, half-no, half-yes, join-ends, next_no-is, next_yes-is, plans-at}
pub use Rattle.spd_apply.proofs.WholeLaws.{apply-tree}
