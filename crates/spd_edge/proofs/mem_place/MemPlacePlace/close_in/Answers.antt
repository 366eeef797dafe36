use Rattle.std.proofs.Common.{◌≡◌, ap, ◌∙◌, refl, subst}
use Rattle.spd_edge.specs.Counts.{AllInRange}
use Rattle.spd_edge.specs.Memory.{Input}
use Rattle.spd_edge.specs.MemoryPlace.{IsUnread, MemoryPlace, Shelf, input_direction, closed_on, inputs_of, shelf_of}
use Rattle.spd_edge.proofs.MemoryPlaceLemmas.{bytes_put, AllPut-kept, Closes-closed, NoneFalls-counting}
use Rattle.spd_edge.proofs.mem_place.MemPlacePlace.close_in.Goals as goal

pub invariant_of-self : goal.invariant_of-self
invariant_of-self c =
    let kept = AllPut-kept IsUnread (shelf_of c.self.inside.inputs) (shelf_of c.close.new.self) (ap (λ (s : Shelf Input). s.put) c.close.ensures.closed) c.self.invariant.0 in
    (kept, c.self.invariant.1)

module _ (c : goal.After-close) where
  in_range : AllInRange (inputs_of c.args.self.now).faults
  in_range = subst (λ (p : MemoryPlace). AllInRange (inputs_of p).faults) c.self.view_is c.close.ensures.in_range_before

  closed : shelf_of c.close.new.self ≡ closed_on (inputs_of c.args.self.now) c.args.name.now c.args.input c.args.input.faults
  closed =
      c.close.ensures.closed
      ∙ ap (closed_on (shelf_of c.self.inside.inputs) c.args.name.now c.args.input) c.faults-faults.ensures
      ∙ ap (λ (p : MemoryPlace). closed_on (inputs_of p) c.args.name.now c.args.input c.args.input.faults) c.self.view_is

pub returns-clause-inputs : goal.returns-clause-inputs
returns-clause-inputs c =
    Closes-closed bytes_put (inputs_of c.args.self.now) (shelf_of c.close.new.self) c.args.name.now c.args.input c.args.input.faults (in_range c) (closed c)

pub returns-clause-never_falls : goal.returns-clause-never_falls
returns-clause-never_falls c =
    NoneFalls-counting (inputs_of c.args.self.now) _ (shelf_of c.close.new.self) c.args.name.now c.args.input.faults (in_range c) refl (closed c)

pub returns-clause-holds : goal.returns-clause-holds
returns-clause-holds c = ap (λ (s : Shelf Input). (input_direction s).holds) (closed c)
