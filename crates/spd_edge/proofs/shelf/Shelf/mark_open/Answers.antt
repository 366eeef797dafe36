use Rattle.std.proofs.Common.{◌≡◌, ap, sym, ◌∙◌, subst, None, Some, IsSome}
use Rattle.std.specs.Prelude.{position, option_map}
use Rattle.std.specs.Str.{bytes_eq}
use Rattle.spd_edge.specs.declared.outside.Stage.TheVariants as Stage
use Rattle.spd_edge.specs.MemoryPlace.{shelf_of}
use Rattle.spd_edge.proofs.ShelfLemmas.{label, shelf-open, shelf-missing, shelf-set-in_range, put-in_range}
use Rattle.spd_edge.proofs.shelf.Shelf.mark_open.Goals as goal

pub unreachable-requires : goal.unreachable-requires
unfolding shelf_of
unreachable-requires g c =
    let place : position (λ each. bytes_eq (label each) c.args.name.now) c.self.inside.puts.items ≡ None =
    ap (position (λ each. bytes_eq (label each) c.args.name.now)) (sym c.deref.ensures.value) ∙ sym c.in-None.ensures in
    let missing = shelf-missing (record { puts = c.self.inside.puts.items; refused = c.self.inside.refused; faults = c.self.inside.faults }) c.args.self.now c.args.name.now c.self.view_is place in
    let never = subst (λ o. IsSome (option_map (λ put. put.object) o)) missing c.requires in
    cc never

pub returns-clause-opened : goal.returns-clause-opened
unfolding shelf_of
returns-clause-opened g c =
    let place : position (λ each. bytes_eq (label each) c.args.name.now) c.self.inside.puts.items ≡ Some c.in-Some.at =
    ap (position (λ each. bytes_eq (label each) c.args.name.now)) (sym c.deref.ensures.value) ∙ sym c.in-Some.ensures in
    shelf-open (record { puts = c.self.inside.puts.items; refused = c.self.inside.refused; faults = c.self.inside.faults })
    c.args.self.now c.args.name.now c.in-Some.at c.index_mut-put.result.now c.self.view_is place c.index_mut-put.ensures.value

pub returns-clause-in_range : goal.returns-clause-in_range
unfolding shelf_of
returns-clause-in_range g c =
    let put = c.index_mut-put.result.now in
    let place : position (λ each. bytes_eq (label each) c.args.name.now) c.self.inside.puts.items ≡ Some c.in-Some.at =
    ap (position (λ each. bytes_eq (label each) c.args.name.now)) (sym c.deref.ensures.value) ∙ sym c.in-Some.ensures in
    shelf-set-in_range (record { puts = c.self.inside.puts.items; refused = c.self.inside.refused; faults = c.self.inside.faults }) c.in-Some.at (record put { stage = Some Stage.Open })
    c.self.invariant.0 c.self.invariant.1 (put-in_range c.self.inside.puts.items c.args.name.now c.in-Some.at put c.self.invariant.0 place c.index_mut-put.ensures.value)
