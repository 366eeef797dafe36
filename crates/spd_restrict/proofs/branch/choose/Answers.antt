use Rattle.spd_restrict.proofs.BranchLaws.{branch-made}
use Rattle.spd_restrict.proofs.branch.choose.Goals as goal

pub returns-clause-made : goal.returns-clause-made
returns-clause-made g c =
    branch-made (g.F.Forest.shows c.args.forest.now) c.layout.ensures.sound c.args.var c.args.primed c.args.kids.now c.requires.known c.requires.whole c.requires.var c.requires.count (record { 0 = 0 }) (g.F.Forest.shows c.choose_from.new.forest) c.choose_from.result c.choose_from.ensures.made
