use Rattle.std.proofs.Common.{◌≡◌, ap, ◌∙◌, refl, subst, Some}
use Rattle.std.specs.Prelude.{option_map}
use Rattle.spd_edge.specs.Counts.{AllInRange}
use Rattle.spd_edge.specs.Memory.{Output}
use Rattle.spd_edge.specs.MemoryPlace.{IsUnwritten, MemoryPlace, Shelf, output_direction, closed_on, outputs_of, shelf_of}
use Rattle.spd_edge.proofs.NamesLemmas.{updated-same, updated-other}
use Rattle.spd_edge.proofs.MemoryPlaceLemmas.{bytes_closed, AllPut-kept, Closes-closed, NoneFalls-counting}
use Rattle.spd_edge.proofs.mem_place.MemPlacePlace.close_out.Goals as goal

pub invariant_of-self : goal.invariant_of-self
invariant_of-self c =
    let kept = AllPut-kept IsUnwritten (shelf_of c.self.inside.outputs) (shelf_of c.close.new.self) (ap (λ (s : Shelf Output). s.put) c.close.ensures.closed) c.self.invariant.1 in
    (c.self.invariant.0, kept)

module _ (c : goal.After-close) where
  in_range : AllInRange (outputs_of c.args.self.now).faults
  in_range = subst (λ (p : MemoryPlace). AllInRange (outputs_of p).faults) c.self.view_is c.close.ensures.in_range_before

  closed : shelf_of c.close.new.self ≡ closed_on (outputs_of c.args.self.now) c.args.name.now c.args.output c.args.output.faults
  closed =
      c.close.ensures.closed
      ∙ ap (closed_on (shelf_of c.self.inside.outputs) c.args.name.now c.args.output) c.faults-faults.ensures
      ∙ ap (λ (p : MemoryPlace). closed_on (outputs_of p) c.args.name.now c.args.output c.args.output.faults) c.self.view_is

pub returns-clause-outputs : goal.returns-clause-outputs
returns-clause-outputs c =
    Closes-closed bytes_closed (outputs_of c.args.self.now) (shelf_of c.close.new.self) c.args.name.now c.args.output c.args.output.faults (in_range c) (closed c)

pub returns-clause-never_falls : goal.returns-clause-never_falls
returns-clause-never_falls c =
    NoneFalls-counting (outputs_of c.args.self.now) _ (shelf_of c.close.new.self) c.args.name.now c.args.output.faults (in_range c) refl (closed c)

pub returns-clause-holds : goal.returns-clause-holds
returns-clause-holds c =
    ap (λ (s : Shelf Output). (output_direction s).holds c.args.name.now) (closed c)
    ∙ ap (option_map (λ output. output.taken)) (updated-same (outputs_of c.args.self.now).closed c.args.name.now (Some c.args.output))

pub returns-clause-other_holds : goal.returns-clause-other_holds
returns-clause-other_holds c = λ other differ.
    ap (λ (s : Shelf Output). (output_direction s).holds other) (closed c)
    ∙ ap (option_map (λ output. output.taken)) (updated-other (outputs_of c.args.self.now).closed c.args.name.now (Some c.args.output) other differ)
