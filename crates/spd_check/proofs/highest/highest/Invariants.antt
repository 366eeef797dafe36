use Rattle.std.proofs.Common.{◌≡◌, ◌<◌, ℕ, List, ℤ}
use Rattle.spd_model.specs.Process.{Process}
use Rattle.spd_policy.specs.Best.{AreBoundsOf}
use Rattle.spd_check.specs.inner.Judging.{HasHighest}
use Rattle.spd_check.proofs.highest.highest.Given as goal

-- the greatest upper bound of the first i actions is made
abbrev pub invariant-loop-i : goal.invariant-loop-i
invariant-loop-i g l = record {
  some : 0 < l.i;
  keeps : g.F.Forest.kept l.forest ≡ g.F.Forest.kept l.fn.forest;
  has : (m : Process) (w : List ℕ → ℤ) → AreBoundsOf m w (g.F.Forest.shows l.fn.forest) l.fn.bounds → HasHighest m w (g.F.Forest.shows l.fn.forest) (g.F.Forest.shows l.forest) l.i l.high;
}
