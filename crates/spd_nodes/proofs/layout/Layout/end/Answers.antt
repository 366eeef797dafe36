use Rattle.spd_nodes.proofs.SlotLaws.{end-test}
use Rattle.spd_nodes.proofs.layout.Layout.end.Goals as goal

pub returns-clause-end : goal.returns-clause-end
returns-clause-end c = end-test c.args.self.now c.args.level.0 c.what-var.result.0 c.what-var.result.2 c.tests-end.result.1 c.what-var.result.1 c.what-var.ensures (rw c.tests-end.ensures.first at c.tests-end.ensures.end)
