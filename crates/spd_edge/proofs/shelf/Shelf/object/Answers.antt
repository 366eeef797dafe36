use Rattle.std.proofs.Common.{◌≡◌, ap, sym, ◌∙◌, None, Some}
use Rattle.std.specs.Prelude.{position, option_map}
use Rattle.std.specs.Str.{bytes_eq}
use Rattle.spd_edge.specs.MemoryPlace.{shelf_of}
use Rattle.spd_edge.proofs.ShelfLemmas.{label, shelf-found, shelf-missing, shelf-in_range}
use Rattle.spd_edge.proofs.shelf.Shelf.object.Goals as goal

pub returns-in-Some-clause-value : goal.returns-in-Some-clause-value
unfolding shelf_of
returns-in-Some-clause-value g c =
    let place : position (λ each. bytes_eq (label each) c.args.name.now) c.self.inside.puts.items ≡ Some c.in-Some.at =
    ap (position (λ each. bytes_eq (label each) c.args.name.now)) (sym c.deref.ensures.value) ∙ sym c.in-Some.ensures in
    ap (option_map (λ put. put.object))
    (sym (shelf-found (record { puts = c.self.inside.puts.items; refused = c.self.inside.refused; faults = c.self.inside.faults }) c.args.self.now c.args.name.now c.in-Some.at c.index.result.now c.self.view_is place c.index.ensures))

pub returns-in-Some-clause-in_range : goal.returns-in-Some-clause-in_range
unfolding shelf_of
returns-in-Some-clause-in_range g c =
    shelf-in_range (record { puts = c.self.inside.puts.items; refused = c.self.inside.refused; faults = c.self.inside.faults }) c.args.self.now c.self.view_is c.self.invariant.0 c.self.invariant.1

pub returns-in-None-clause-value : goal.returns-in-None-clause-value
unfolding shelf_of
returns-in-None-clause-value g c =
    let place : position (λ each. bytes_eq (label each) c.args.name.now) c.self.inside.puts.items ≡ None =
    ap (position (λ each. bytes_eq (label each) c.args.name.now)) (sym c.deref.ensures.value) ∙ sym c.in-None.ensures in
    ap (option_map (λ put. put.object)) (sym (shelf-missing (record { puts = c.self.inside.puts.items; refused = c.self.inside.refused; faults = c.self.inside.faults }) c.args.self.now c.args.name.now c.self.view_is place))

pub returns-in-None-clause-in_range : goal.returns-in-None-clause-in_range
unfolding shelf_of
returns-in-None-clause-in_range g c =
    shelf-in_range (record { puts = c.self.inside.puts.items; refused = c.self.inside.refused; faults = c.self.inside.faults }) c.args.self.now c.self.view_is c.self.invariant.0 c.self.invariant.1
