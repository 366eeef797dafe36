use Rattle.std.proofs.Common.{◌≡◌, ℕ, List, ap, ◌∙◌, arith, refl, subst}
use Rattle.spd_edge.specs.Counts.{AllInRange}
use Rattle.spd_edge.specs.Memory.{Output}
use Rattle.spd_edge.specs.MemoryPlace.{IsUnwritten, MemoryPlace, Shelf, opened_on, refused_on, outputs_of, shelf_of}
use Rattle.spd_edge.proofs.MemoryPlaceLemmas.{bytes_closed, AllPut-found, AllPut-kept, Opens-opened, FailsToOpen-refused, NoneFalls-counting}
use Rattle.spd_edge.proofs.mem_place.MemPlacePlace.open_out.Goals as goal

pub invariant_of-self : goal.invariant_of-self
invariant_of-self c =
    let kept = AllPut-kept IsUnwritten (shelf_of c.self.inside.outputs) (shelf_of c.mark_open.new.self) (ap (λ (s : Shelf Output). s.put) c.mark_open.ensures.opened) c.self.invariant.1 in
    (c.self.invariant.0, kept)

pub invariant_of-self-in-None : goal.invariant_of-self-in-None
invariant_of-self-in-None c =
    let kept = AllPut-kept IsUnwritten (shelf_of c.self.inside.outputs) (shelf_of c.refuse.new.self) (ap (λ (s : Shelf Output). s.put) c.in_ok-refuse-in-None.ensures.ok) c.self.invariant.1 in
    (c.self.invariant.0, kept)

pub returns-in_ok-output-in-Some-clause-named : goal.returns-in_ok-output-in-Some-clause-named
returns-in_ok-output-in-Some-clause-named c =
    ap (λ (x : Output). x.name) c.in_ok-output-in-Some.ensures
    ∙ (AllPut-found IsUnwritten (shelf_of c.self.inside.outputs) c.args.name.now c.in-Some.output.now c.self.invariant.1 c.in-Some.ensures.value).0

opened : (c : goal.After-mark_open) → shelf_of c.mark_open.new.self ≡ opened_on (outputs_of c.args.self.now) c.args.name.now
opened c = c.mark_open.ensures.opened ∙ ap (λ (p : MemoryPlace). opened_on (outputs_of p) c.args.name.now) c.self.view_is

pub returns-in_ok-output-in-Some-clause-outputs : goal.returns-in_ok-output-in-Some-clause-outputs
returns-in_ok-output-in-Some-clause-outputs c = Opens-opened bytes_closed (outputs_of c.args.self.now) (shelf_of c.mark_open.new.self) c.args.name.now (opened c)

pub returns-in_ok-output-in-Some-clause-never_falls : goal.returns-in_ok-output-in-Some-clause-never_falls
returns-in_ok-output-in-Some-clause-never_falls c =
    let same = ap (λ (s : Shelf Output). s.faults) (opened c) in
    λ name. let here : (shelf_of c.mark_open.new.self).faults name ≡ (outputs_of c.args.self.now).faults name = ap (λ (f : List ℕ → ℕ). f name) same in omega (arith, here)

module _ (c : goal.In_ok-refuse-in-None) where
  refused : shelf_of c.refuse.new.self ≡ refused_on (outputs_of c.args.self.now) c.args.name.now
  refused = c.in_ok-refuse-in-None.ensures.ok ∙ ap (λ (p : MemoryPlace). refused_on (outputs_of p) c.args.name.now) c.self.view_is

  in_range : AllInRange (outputs_of c.args.self.now).faults
  in_range = subst (λ (p : MemoryPlace). AllInRange (outputs_of p).faults) c.self.view_is c.in-None.ensures.in_range

pub returns-in_ok-refuse-in-None-clause-outputs : goal.returns-in_ok-refuse-in-None-clause-outputs
returns-in_ok-refuse-in-None-clause-outputs c = FailsToOpen-refused bytes_closed (outputs_of c.args.self.now) (shelf_of c.refuse.new.self) c.args.name.now (refused c)

pub returns-in_ok-refuse-in-None-clause-never_falls : goal.returns-in_ok-refuse-in-None-clause-never_falls
returns-in_ok-refuse-in-None-clause-never_falls c =
    NoneFalls-counting (outputs_of c.args.self.now) _ (shelf_of c.refuse.new.self) c.args.name.now 1 (in_range c) refl (refused c)
