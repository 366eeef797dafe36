use Rattle.std.proofs.Common.{◌≡◌, ℕ, ◌+◌, ◌-◌, ◌<◌, ◌≤◌, List, ℤ, All, None, length}
use Rattle.spd_cons_core.specs.Invariants.{shares}
use Rattle.spd_model.specs.Process.{Process}
use Rattle.spd_nodes.specs.Grove.{shown_of}
use Rattle.spd_nodes.specs.Shown.{Grows}
use Rattle.spd_turn.specs.Jobs.{CanBackUp, HoldFor}
use Rattle.spd_turn.specs.Waves.{HaveRun}
use Rattle.spd_turn.proofs.waves.backup_actions.Given as goal

abbrev pub invariant-loop-first : goal.invariant-loop-first
invariant-loop-first g l = record {
  grows : Grows (shown_of l.initial.grove) (shown_of l.grove);
  sizes : l.grove.sizes ≡ l.initial.grove.sizes;
  table : l.grove.seat.table ≡ l.initial.grove.seat.table;
  shares_are : shares l.grove.seat.mind ≡ shares l.initial.grove.seat.mind;
  splits : l.grove.seat.mind.splits + l.first ≡ l.initial.grove.seat.mind.splits;
  within : l.first ≤ l.actions;
  some : l.first < l.actions → 0 < length l.lanes.items;
  hold : All (HoldFor l.thawed (shown_of l.grove)) l.lanes.items;
  count : length l.bounds.items ≤ l.first;
  room : l.actions ≤ l.bounds.cap;
  have : (m : Process) (value : List ℕ → ℤ) → CanBackUp m value (shown_of l.initial.grove) l.thawed l.w → HaveRun m value (shown_of l.initial.grove) l.first (shown_of l.grove) l.bounds.items None;
}

abbrev pub decreases-loop-first : goal.decreases-loop-first
decreases-loop-first g l = l.actions - l.first
