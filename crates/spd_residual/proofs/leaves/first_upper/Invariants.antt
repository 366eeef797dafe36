use Rattle.std.proofs.Common.{◌≡◌, ◌<◌, ℕ, false, get_or}
use Rattle.spd_nodes.specs.Shown.{meaning}
use Rattle.spd_nodes.specs.Trees.{leaf_eq}
use Rattle.spd_backup.specs.declared.backing.Bounds.{Bounds}
use Rattle.spd_residual.proofs.leaves.first_upper.Given as goal

abbrev pub invariant-loop-i : goal.invariant-loop-i
invariant-loop-i g l = record {
  same : g.F.Forest.shows l.forest ≡ g.F.Forest.shows l.fn.forest;
  keeps : g.F.Forest.kept l.forest ≡ g.F.Forest.kept l.fn.forest;
  before : (k : ℕ) (d : Bounds) → k < l.i → leaf_eq l.fn.leaf (meaning (g.F.Forest.shows l.fn.forest) (get_or l.fn.bounds k d).hi l.fn.state l.fn.state) ≡ false;
}
