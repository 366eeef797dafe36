use Rattle.std.proofs.Common.{◌≡◌, ℕ, List, ℤ, length}
use Rattle.spd_model.specs.Process.{Process}
use Rattle.spd_backup.specs.Keeping.{HoldAll}
use Rattle.spd_turn.specs.Jobs.{CanBackUp}
use Rattle.spd_turn.specs.Backups.{HaveBackedUp}
use Rattle.spd_turn.proofs.backups.backup_all.Given as goal

abbrev pub invariant-loop-action : goal.invariant-loop-action
invariant-loop-action g l = record {
  backed : (m : Process) (value : List ℕ → ℤ) → CanBackUp m value (g.F.Forest.shows l.fn.forest) l.thawed l.w → HaveBackedUp m value (g.F.Forest.shows l.fn.forest) l.action (g.F.Forest.shows l.forest) l.all.items;
  tables : HoldAll (length l.thawed.sizes.items) l.thawed.g (g.F.Forest.shows l.forest) l.tables;
  keeps : g.F.Forest.kept l.forest ≡ g.F.Forest.kept l.fn.forest;
}
