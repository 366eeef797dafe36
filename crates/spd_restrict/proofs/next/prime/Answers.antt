use Rattle.std.proofs.Common.{◌∙◌}
use Rattle.spd_nodes.proofs.CallerLemmas.{makes-diagram}
use Rattle.spd_restrict.proofs.PrimedLaws.{prime-tree}
use Rattle.spd_restrict.proofs.next.prime.Goals as goal

pub returns-in-Ok-clause-made : goal.returns-in-Ok-clause-made
returns-in-Ok-clause-made g c =
    let same = c.in-Ok.ensures ∙ c.sizes.ensures.sizes ∙ c.layout.ensures.sizes in
    makes-diagram c.layout.ensures.sound (prime-tree c.in-Ok.layout (g.F.Forest.shows c.args.forest.now) c.layout.ensures.sound c.args.f c.requires.known c.requires.whole same c.requires.plain) c.make_alone.ensures.made
