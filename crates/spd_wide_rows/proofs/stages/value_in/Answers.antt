use Rattle.spd_frozen.specs.Frozen.{leaf_at}
use Rattle.spd_frozen.proofs.CallerLemmas.{present-from}
use Rattle.spd_wide_rows.proofs.StartLaws.{start-fits}
use Rattle.spd_wide_rows.proofs.stages.value_in.Goals as goal

pub thaw-requires : goal.thaw-requires
thaw-requires g c =
    start-fits (g.F.Forest.shows c.args.forest.now) c.layout.ensures.sound c.args.model.now c.requires.layout c.args.built.now c.requires.built.parts

pub freeze-requires-clause-present : goal.freeze-requires-clause-present
freeze-requires-clause-present g c =
    present-from (g.F.Forest.shows c.thaw.new.forest) c.in-Ok.w (leaf_at c.args.built.now.start) c.in-Ok.ensures.made.ok
