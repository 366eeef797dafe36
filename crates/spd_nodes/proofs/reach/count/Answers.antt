use Rattle.std.proofs.Common.{◌∙◌}
use Rattle.spd_nodes.proofs.RefLaws.{node_count-reached}
use Rattle.spd_nodes.proofs.reach.count.Goals as goal

pub returns-clause-ok : goal.returns-clause-ok
returns-clause-ok g c = c.len.ensures ∙ node_count-reached (g.F.Forest.shows c.args.forest.now) c.layout.ensures.sound c.args.r c.in_ok-refs.refs c.in_ok-refs.ensures.ok
