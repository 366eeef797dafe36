use Rattle.std.proofs.Common.{◌≡◌, ℕ, ◌<◌, get_or}
use Rattle.spd_check.proofs.first.comes_before.Given as goal

-- the values before agree
abbrev pub invariant-loop-var : goal.invariant-loop-var
invariant-loop-var l = (k : ℕ) → k < l.var → get_or l.fn.a k 0 ≡ get_or l.fn.b k 0
