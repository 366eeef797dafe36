use Rattle.std.proofs.Common.{refl, None, rules}
use Rattle.spd_edge.specs.MemoryPlace.{shelf_of}
use Rattle.spd_edge.proofs.ShelfLemmas.{shelf-put}
use Rattle.spd_edge.proofs.shelf.Shelf.put.Goals as goal

pub returns-clause-ok : goal.returns-clause-ok
unfolding shelf_of
returns-clause-ok g c =
    shelf-put
    (record { puts = c.self.inside.puts.items; refused = c.self.inside.refused; faults = c.self.inside.faults })
    (record { puts = c.push.new.self.items; refused = c.self.inside.refused; faults = c.self.inside.faults })
    c.args.self.now
    c.args.name.now
    (record { name = c.in_ok-name.name; object = c.args.object; closed = None; stage = c.refused_stage-stage.result; faults = c.self.inside.faults })
    c.self.view_is c.requires (search rules) c.in_ok-push.ensures.items refl refl refl c.refused_stage-stage.ensures refl
