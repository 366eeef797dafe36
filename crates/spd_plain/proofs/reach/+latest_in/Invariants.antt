use Rattle.std.proofs.Common.{◌≡◌, max, map, fold, take}
use Rattle.spd_model.specs.Trees.{read_tree}
use Rattle.spd_plain.specs.inner.Reach.{latest}
use Rattle.spd_plain.proofs.reach.+latest_in.Given as goal

abbrev pub invariant-loop-kid : goal.invariant-loop-kid
invariant-loop-kid l = l.most ≡ fold max l.initial.most (map (read_tree latest l.diagrams) (take l.kid-index l.kid-items))
