use Rattle.std.proofs.Common.{◌≡◌, ℕ, length, All}
use Rattle.spd_nodes.specs.Shown.{Shown}
use Rattle.spd_backup.specs.Keeping.{HoldAll}
use Rattle.spd_turn.proofs.waves.make_lanes.Given as goal

abbrev pub invariant-loop : goal.invariant-loop
invariant-loop l = record {
  count : length l.lanes.items ≡ l.counter;
  hold : (discount : ℕ) (s : Shown) → All (HoldAll (length l.sizes) discount s) l.lanes.items;
}
