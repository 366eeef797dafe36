use Rattle.std.proofs.Common.{◌≡◌, ◌≤◌, ◌<◌, ◌-◌, ℕ, false, length}
use Rattle.std.specs.Prelude.{slice_index}
use Rattle.spd_query.specs.Lines.{is_equals}
use Rattle.spd_query.proofs.pair.equals_at.Given as goal

abbrev pub invariant-loop-at : goal.invariant-loop-at
invariant-loop-at l = (l.at ≤ length l.word) × ((k : ℕ) → k < l.at → is_equals (slice_index l.word k) ≡ false)

abbrev pub decreases-loop-at : goal.decreases-loop-at
decreases-loop-at l = length l.word - l.at
