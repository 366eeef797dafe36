use Rattle.std.proofs.Common.{[], ◌∷◌, map}
use Rattle.spd_nodes.specs.Shown.{meaning}
use Rattle.spd_nodes.proofs.CallerLemmas.{makes_among-known}
use Rattle.spd_weigh.specs.Weighing.{summed_out}
use Rattle.spd_backup.proofs.FreeLaws.{free-stands}
use Rattle.spd_backup.proofs.free.sum_or_keep.Goals as goal

pub returns-then-is_free-clause-made : goal.returns-then-is_free-clause-made
returns-then-is_free-clause-made g c =
    let s = g.F.Forest.shows c.args.forest.now in
    let f = summed_out c.args.way c.args.var (map (meaning s) c.args.weights.now) (meaning s c.args.f) in
    rw c.is_free.ensures.same
    (makes_among-known s c.layout.ensures.sound c.args.f f (f ∷ [])
    (free-stands s c.layout.ensures.sound c.args.way c.args.var (map (meaning s) c.args.weights.now) c.args.f c.requires.known c.requires.whole c.requires.weights c.requires.values (c.is_free.ensures.free c.if-is_free.true)))
