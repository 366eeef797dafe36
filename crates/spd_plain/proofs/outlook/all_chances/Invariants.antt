use Rattle.std.proofs.Common.{◌≡◌, map}
use Rattle.spd_model.specs.Numbers.{numbers_below}
use Rattle.spd_plain.specs.inner.Chances.{values_of}
use Rattle.spd_plain.proofs.outlook.all_chances.Given as goal

abbrev pub invariant-loop-var : goal.invariant-loop-var
invariant-loop-var l = l.chances.items ≡ map (values_of l.model l.action l.s) (numbers_below l.var)
