use Rattle.std.proofs.Common.{◌≡◌, ◌≢◌, ◌⊎◌, ℕ, ◌+◌, ◌-◌, ◌<◌, ◌≤◌, eqb, take, get_or}
use Rattle.std.specs.Prelude.{count_by}
use Rattle.spd_help.proofs.place.start_of.Given as goal

abbrev pub invariant-loop-i : goal.invariant-loop-i
invariant-loop-i l = record {
  number : l.number ≡ 1 + count_by (λ byte. eqb byte 10) (take l.i l.bytes);
  few : l.number ≤ 1 + l.i;
  starts : (l.start ≡ 0) ⊎ ((0 < l.start) × (get_or l.bytes (l.start - 1) 0 ≡ 10));
  before : l.start ≤ l.i;
  whole : (k : ℕ) → l.start ≤ k → k < l.i → get_or l.bytes k 0 ≢ 10;
}
