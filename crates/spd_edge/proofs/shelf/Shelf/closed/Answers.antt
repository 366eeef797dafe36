use Rattle.std.proofs.Common.{◌≡◌, ap, sym, ◌∙◌, None, Some}
use Rattle.std.specs.Prelude.{position}
use Rattle.std.specs.Option.{option_map_or}
use Rattle.std.specs.Str.{bytes_eq}
use Rattle.spd_edge.specs.MemoryPlace.{shelf_of}
use Rattle.spd_edge.proofs.ShelfLemmas.{label, shelf-found, shelf-missing}
use Rattle.spd_edge.proofs.shelf.Shelf.closed.Goals as goal

pub returns-in-Some : goal.returns-in-Some
unfolding shelf_of
returns-in-Some g c =
    let place : position (λ each. bytes_eq (label each) c.args.name.now) c.self.inside.puts.items ≡ Some c.in-Some.at =
    ap (position (λ each. bytes_eq (label each) c.args.name.now)) (sym c.deref.ensures.value) ∙ sym c.in-Some.ensures in
    c.as_ref.ensures.value
    ∙ ap (λ o. option_map_or (λ put. put.closed) o None)
    (sym (shelf-found (record { puts = c.self.inside.puts.items; refused = c.self.inside.refused; faults = c.self.inside.faults }) c.args.self.now c.args.name.now c.in-Some.at c.index.result.now c.self.view_is place c.index.ensures))

pub returns-in-None : goal.returns-in-None
unfolding shelf_of
returns-in-None g c =
    let place : position (λ each. bytes_eq (label each) c.args.name.now) c.self.inside.puts.items ≡ None =
    ap (position (λ each. bytes_eq (label each) c.args.name.now)) (sym c.deref.ensures.value) ∙ sym c.in-None.ensures in
    ap (λ o. option_map_or (λ put. put.closed) o None) (sym (shelf-missing (record { puts = c.self.inside.puts.items; refused = c.self.inside.refused; faults = c.self.inside.faults }) c.args.self.now c.args.name.now c.self.view_is place))
