use Rattle.std.proofs.Common.{◌≡◌, ℕ, ◌<◌, [], drop, length, pos, slice_index_or}
use Rattle.spd_model.specs.States.{sizes, states}
use Rattle.spd_plain.specs.inner.Chances.{chance_of}
use Rattle.spd_plain.proofs.chances.read_chances.Given as goal

abbrev pub invariant-loop-place : goal.invariant-loop-place
invariant-loop-place l = record {
  len : length l.chances.items ≡ l.place;
  each : (k : ℕ) → k < l.place → slice_index_or l.chances.items k (pos 0) ≡ chance_of l.model l.action l.s l.axis.var (slice_index_or (states (drop l.axis.var (sizes l.model))) k []);
}
