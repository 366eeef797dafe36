use Rattle.std.proofs.Common.{◌≡◌, take, Decides}
use Rattle.spd_query.proofs.compare.same_front.Given as goal

abbrev pub invariant-loop-k : goal.invariant-loop-k
invariant-loop-k g l = Decides l.same (take l.k l.a ≡ take l.k l.b)
