use Rattle.std.proofs.Common.{◌≡◌, ℕ, ◌<◌, ◌+◌, ◌*◌, length, pos, slice_index_or}
use Rattle.spd_plain.proofs.chances.spread.Given as goal

abbrev pub invariant-loop-value : goal.invariant-loop-value
invariant-loop-value l = record {
  len : length l.chances.items ≡ l.value * l.after;
  each : (v k : ℕ) → v < l.value → k < l.after → slice_index_or l.chances.items (v * l.after + k) (pos 0) ≡ slice_index_or l.kept v (pos 0);
}
