use Rattle.std.proofs.Common.{◌≡◌, ℕ, List, ℤ, length, Ok}
use Rattle.spd_model.specs.declared.process.Action.{Action}
use Rattle.spd_model.specs.Process.{Process}
use Rattle.spd_backup.specs.Keeping.{HoldEachSum}
use Rattle.spd_backup.specs.Making.{Follows, MakesFirst}
use Rattle.spd_backup.proofs.expecting.expect.Given as goal

abbrev pub invariant-loop-var : goal.invariant-loop-var
invariant-loop-var g l = record {
  made : (m : Process) (a : Action) (w : List ℕ → ℤ) → Follows m a w (g.F.Forest.shows l.fn.forest) l.fn.thawed l.fn.action l.fn.next → MakesFirst l.fn.way m a w l.var (g.F.Forest.shows l.fn.forest) (g.F.Forest.shows l.forest) (Ok l.expected);
  keeps : g.F.Forest.kept l.forest ≡ g.F.Forest.kept l.fn.forest;
  sums : HoldEachSum l.fn.way (length l.fn.thawed.sizes.items) (g.F.Forest.shows l.forest) l.sums.items;
}
