use Rattle.std.proofs.Common.{◌≡◌, ap, sym, ◌∙◌, None, Some}
use Rattle.std.specs.Prelude.{position}
use Rattle.std.specs.Str.{bytes_eq}
use Rattle.spd_edge.specs.declared.outside.Stage.TheVariants as Stage
use Rattle.spd_edge.specs.MemoryPlace.{shelf_of}
use Rattle.spd_edge.proofs.ShelfLemmas.{label, shelf-close, shelf-missing, stranger-not_open, shelf-in_range, shelf-set-in_range}
use Rattle.spd_edge.proofs.shelf.Shelf.close.Goals as goal

pub unreachable-requires : goal.unreachable-requires
unfolding shelf_of
unreachable-requires g c =
    let place : position (λ each. bytes_eq (label each) c.args.name.now) c.self.inside.puts.items ≡ None =
    ap (position (λ each. bytes_eq (label each) c.args.name.now)) (sym c.deref.ensures.value) ∙ sym c.in-None.ensures in
    stranger-not_open c.args.self.now c.args.name.now
    (shelf-missing (record { puts = c.self.inside.puts.items; refused = c.self.inside.refused; faults = c.self.inside.faults }) c.args.self.now c.args.name.now c.self.view_is place) c.requires

pub returns-clause-closed : goal.returns-clause-closed
unfolding shelf_of
returns-clause-closed g c =
    let place : position (λ each. bytes_eq (label each) c.args.name.now) c.self.inside.puts.items ≡ Some c.in-Some.at =
    ap (position (λ each. bytes_eq (label each) c.args.name.now)) (sym c.deref.ensures.value) ∙ sym c.in-Some.ensures in
    shelf-close (record { puts = c.self.inside.puts.items; refused = c.self.inside.refused; faults = c.self.inside.faults })
    c.args.self.now c.args.name.now c.in-Some.at c.index_mut-put.result.now c.args.object c.args.faults c.saturating_add-put.result
    c.self.view_is place c.index_mut-put.ensures.value c.saturating_add-put.ensures

pub returns-clause-in_range : goal.returns-clause-in_range
unfolding shelf_of
returns-clause-in_range g c =
    let put = c.index_mut-put.result.now in
    shelf-set-in_range (record { puts = c.self.inside.puts.items; refused = c.self.inside.refused; faults = c.self.inside.faults }) c.in-Some.at
    (record put { closed = Some c.args.object; stage = Some Stage.Closed; faults = c.saturating_add-put.result }) c.self.invariant.0 c.self.invariant.1 c.saturating_add-put.type_inv

pub returns-clause-in_range_before : goal.returns-clause-in_range_before
unfolding shelf_of
returns-clause-in_range_before g c = shelf-in_range (record { puts = c.self.inside.puts.items; refused = c.self.inside.refused; faults = c.self.inside.faults }) c.args.self.now c.self.view_is c.self.invariant.0 c.self.invariant.1
