use Rattle.spd_cons.specs.declared.search.Probe.TheVariants.{Full}
use Rattle.spd_cons.specs.Shown.{view_of}
use Rattle.spd_cons.proofs.Passing.{probes-from}
use Rattle.spd_cons.proofs.words.WordTable.search_on.Goals as goal

pub returns-in-Full-clause-none : goal.returns-in-Full-clause-none
returns-in-Full-clause-none g c =
    probes-from c.args.self.now.size.count c.args.search.now c.loop-e.search c.probe.new.search (view_of c.args.active.now) (view_of c.loop-e.active) (view_of c.probe.new.active) Full c.loop-e.invariant.2 c.loop-e.invariant.3 c.loop-e.invariant.4 c.in-Full.ensures.probes
