use Rattle.std.proofs.Common.{◌≡◌, true, take, All}
use Rattle.spd_apply.proofs.conditions.fits_all.Given as goal

abbrev pub invariant-loop-a : goal.invariant-loop-a
invariant-loop-a g l = All (λ a. All (λ b. g.O.LeafOp.fits l.op a b ≡ true) l.right) (take l.a-index l.left)
