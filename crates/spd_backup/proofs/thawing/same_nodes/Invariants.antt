use Rattle.std.proofs.Common.{◌≡◌, map, take}
use Rattle.spd_backup.proofs.thawing.same_nodes.Given as goal

abbrev pub invariant-loop-i : goal.invariant-loop-i
invariant-loop-i g l = record { same : take l.i (map g.M.ListNode.seen l.a) ≡ take l.i (map g.M.ListNode.seen l.b) }
