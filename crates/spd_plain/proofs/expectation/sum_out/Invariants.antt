use Rattle.std.proofs.Common.{◌≡◌, ℕ, ◌<◌, ◌≤◌, ◌*◌, All, length, pos, slice_index_or}
use Rattle.spd_scaled.specs.Scaled.{IsWithin}
use Rattle.spd_model.specs.Chances.{one}
use Rattle.spd_model.specs.Turns.{value_limit}
use Rattle.spd_plain.specs.inner.Expectations.{rounding_of, weighted}
use Rattle.spd_plain.proofs.expectation.sum_out.Given as goal

abbrev pub invariant-loop-place : goal.invariant-loop-place
invariant-loop-place l = record {
  count : length l.values.items ≡ l.size * l.after;
  done : (k : ℕ) → k < l.place → slice_index_or l.values.items k (pos 0) ≡ rounding_of l.side (weighted l.size l.after l.chances l.initial.values.items k) one;
  later : (k : ℕ) → l.place ≤ k → slice_index_or l.values.items k (pos 0) ≡ slice_index_or l.initial.values.items k (pos 0);
  bounded : All (IsWithin (pos value_limit)) l.values.items;
}
