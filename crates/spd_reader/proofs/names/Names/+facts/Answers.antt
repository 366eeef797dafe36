use Rattle.std.proofs.Common.{◌∙◌, map}
use Rattle.spd_reader.specs.declared.dd.Dd.{Dd}
use Rattle.spd_reader.proofs.FactLaws.{branch_facts}
use Rattle.spd_reader.proofs.names.Names.+facts.Goals as goal

pub returns-after-loop-kid : goal.returns-after-loop-kid
returns-after-loop-kid t c =
    c.deeper.ensures
    ∙ branch_facts (map (λ (d : Dd). d.facts) c.args.self.now.dds.items) c.args.tree.now c.in-Branch.var c.in-Branch.primed c.in-Branch.kids c.as_slice-kid-items.result.now
    c.of_branch-all.result c.loop-kid.all c.loop-kid.kid-index c.in-Branch.is c.as_slice-kid-items.ensures c.of_branch-all.ensures c.loop-kid-test.false c.loop-kid.invariant
