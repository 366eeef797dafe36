use Rattle.std.proofs.Common.{◌≡◌, true, take, All}
use Rattle.spd_apply.proofs.conditions.fits_each.Given as goal

abbrev pub invariant-loop-b : goal.invariant-loop-b
invariant-loop-b g l = All (λ b. g.O.LeafOp.fits l.op l.a b ≡ true) (take l.b-index l.right)
