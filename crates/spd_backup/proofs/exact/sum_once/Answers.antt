use Rattle.std.proofs.Common.{[], ◌∷◌, map}
use Rattle.spd_nodes.specs.Shown.{meaning}
use Rattle.spd_nodes.proofs.CallerLemmas.{makes_among-known}
use Rattle.spd_weigh.specs.Weighing.{summed_out}
use Rattle.spd_backup.proofs.exact.sum_once.Goals as goal

pub returns-in-Some-clause-made : goal.returns-in-Some-clause-made
returns-in-Some-clause-made g c =
    let s = g.F.Forest.shows c.args.forest.now in
    let f = summed_out c.args.way c.args.var (map (meaning s) c.args.weights.now) (meaning s c.args.f) in
    rw c.exact_sum.ensures.same
    (makes_among-known s c.layout.ensures.sound c.in-Some.sum f (f ∷ []) (c.in-Some.ensures.stands c.args.way))
