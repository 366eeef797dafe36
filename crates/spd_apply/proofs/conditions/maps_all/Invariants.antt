use Rattle.std.proofs.Common.{◌≡◌, true, take, All}
use Rattle.spd_apply.proofs.conditions.maps_all.Given as goal

abbrev pub invariant-loop-a : goal.invariant-loop-a
invariant-loop-a g l = All (λ a. g.M.LeafMap.fits l.map a ≡ true) (take l.a-index l.leaves)
