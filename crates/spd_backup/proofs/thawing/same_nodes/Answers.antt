use Rattle.std.proofs.Common.{arith, rules}
use Rattle.spd_backup.proofs.BuiltLaws.{same-next}
use Rattle.spd_backup.proofs.thawing.same_nodes.Goals as goal

pub loop-i-preserved : goal.loop-i-preserved
loop-i-preserved g c = record {
  same = same-next g.M.ListNode.seen c.args.a.now c.args.b.now c.loop-i.i c.index-a-i.result c.index-b-i.result (omega arith) c.loop-i-test.true c.index-a-i.is c.index-b-i.is (search rules) c.loop-i.invariant.same;
}
