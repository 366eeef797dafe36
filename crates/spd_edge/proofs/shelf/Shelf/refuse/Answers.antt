use Rattle.std.proofs.Common.{refl}
use Rattle.spd_edge.specs.MemoryPlace.{shelf_of}
use Rattle.spd_edge.proofs.ShelfLemmas.{shelf-refuse, shelf-in_range}
use Rattle.spd_edge.proofs.shelf.Shelf.refuse.Goals as goal

pub returns-in_err-push-clause-in_range : goal.returns-in_err-push-clause-in_range
unfolding shelf_of
returns-in_err-push-clause-in_range g c = shelf-in_range (record { puts = c.self.inside.puts.items; refused = c.self.inside.refused; faults = c.self.inside.faults }) _ refl c.self.invariant.0 c.self.invariant.1

pub returns-clause-ok : goal.returns-clause-ok
unfolding shelf_of
returns-clause-ok g c =
    shelf-refuse (record { puts = c.self.inside.puts.items; refused = c.self.inside.refused; faults = c.self.inside.faults })
    (record { puts = c.self.inside.puts.items; refused = c.push.new.self; faults = c.saturating_add-self-inside.result })
    c.args.self.now c.args.name.now c.self.view_is c.requires refl c.in_ok-push.ensures.ok c.saturating_add-self-inside.ensures

pub returns-clause-in_range : goal.returns-clause-in_range
unfolding shelf_of
returns-clause-in_range g c =
    shelf-in_range (record { puts = c.self.inside.puts.items; refused = c.push.new.self; faults = c.saturating_add-self-inside.result }) _ refl
    c.self.invariant.0 c.saturating_add-self-inside.type_inv
