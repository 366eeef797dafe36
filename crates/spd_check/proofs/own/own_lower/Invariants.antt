use Rattle.std.proofs.Common.{◌≡◌, ℕ, List, ℤ}
use Rattle.spd_model.specs.Process.{Process}
use Rattle.spd_check.specs.inner.Judging.{AreBeside, HasOwn}
use Rattle.spd_check.proofs.own.own_lower.Given as goal

-- the policy is kept beside the lower bound of its action, as far as that is one of the first i
abbrev pub invariant-loop-i : goal.invariant-loop-i
invariant-loop-i g l = record {
  keeps : g.F.Forest.kept l.forest ≡ g.F.Forest.kept l.fn.forest;
  has : (m : Process) (w : List ℕ → ℤ) (policy : List ℕ → ℕ) → AreBeside m w policy (g.F.Forest.shows l.fn.forest) l.fn.bounds l.fn.act
      → HasOwn m w policy (g.F.Forest.shows l.fn.forest) (g.F.Forest.shows l.forest) l.i l.kept;
}
