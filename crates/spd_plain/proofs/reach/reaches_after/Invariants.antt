use Rattle.std.proofs.Common.{◌≡◌, map}
use Rattle.spd_model.specs.Numbers.{numbers_below}
use Rattle.spd_plain.specs.inner.Reach.{reach_at}
use Rattle.spd_plain.proofs.reach.reaches_after.Given as goal

abbrev pub invariant-loop-var : goal.invariant-loop-var
invariant-loop-var l = l.reaches.items ≡ map (reach_at l.model l.action) (numbers_below l.var)
