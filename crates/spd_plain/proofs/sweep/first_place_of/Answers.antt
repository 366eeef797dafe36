use Rattle.std.proofs.Common.{rules, ◌≡◌, ◌∙◌, ◌<◌, refl, List, [], length, get_or, take_all, map, ap, sym, subst, FitsSigned, arith, pos, All, false, ℕ}
use Rattle.std.proofs.lemmas.Int.{to_z-of_z}
use Rattle.std.proofs.lemmas.List.Elements.{All-more}
use mir.Syntax.{w128}
use Rattle.spd_model.specs.Lawful.{IsLawful}
use Rattle.spd_model.specs.States.{sizes, states, at}
use Rattle.spd_model.proofs.CallerLemmas.Gaps.{has_gap, not_nowhere}
use Rattle.spd_model.proofs.CallerLemmas.StateOrder.{length-states, sizes_some, state_count_some}
use Rattle.spd_plain.specs.declared.ranges.Bounds.{Bounds}
use Rattle.spd_plain.specs.inner.Bounds.{range_of}
use Rattle.spd_plain.proofs.SweepLaws.{length-ranges, has_gap_is, state_of_residual_is}
use Rattle.spd_plain.proofs.sweep.first_place_of.Goals as goal
use Rattle.spd_plain.proofs.sweep.first_place_of.Goals.{After-has_gap}

abbrev nothing : Bounds
nothing = record { low = pos 0; high = pos 0 }

pub bounds-ranges-place : goal.bounds-ranges-place
bounds-ranges-place c =
    let are = ap (map range_of) c.as_slice-ranges.ensures.value ∙ c.requires.sweep.ranges in
    omega (arith, length-ranges c.args.model.now c.args.values.now c.as_slice-ranges.result.now are, c.requires.count, c.loop-place-test.true)

-- whether the residual lies at this state
module _ (c : After-has_gap) where
  near : c.loop-place.place < length (states (sizes c.args.model.now))
  near = omega (arith, c.requires.count, c.loop-place-test.true, length-states (sizes c.args.model.now))

  test : c.has_gap.result ≡ has_gap c.args.model.now (at (sizes c.args.model.now) c.args.values.now) c.args.sweep.now.residual (get_or (states (sizes c.args.model.now)) c.loop-place.place [])
  test =
      let ranges = c.as_slice-ranges.result.now in
      let k = c.loop-place.place in
      let value_fits : FitsSigned w128 (get_or c.args.values.now k (pos 0)) = search rules in
      let residual_fits : FitsSigned w128 c.args.sweep.now.residual = search rules in
      let told = simp to_z-of_z at c.has_gap.ensures in
      told ∙ has_gap_is c.args.model.now c.args.values.now ranges (ap (map range_of) c.as_slice-ranges.ensures.value ∙ c.requires.sweep.ranges) k (get_or ranges k nothing) nothing
      (omega (arith, c.requires.count, c.loop-place-test.true)) refl c.args.sweep.now.residual

pub returns-then-has_gap-clause-first : goal.returns-then-has_gap-clause-first
returns-then-has_gap-clause-first c =
    let p = (goal.at.returns-then-has_gap-clause-first c).After-has_gap in
    state_of_residual_is c.args.model.now (at (sizes c.args.model.now) c.args.values.now) c.args.sweep.now.residual c.loop-place.place (near p) c.loop-place.invariant (sym (test p) ∙ c.if-has_gap.true)

pub loop-place-preserved : goal.loop-place-preserved
loop-place-preserved c =
    let p = (goal.at.loop-place-preserved c).After-has_gap in
    All-more (λ s. has_gap c.args.model.now (at (sizes c.args.model.now) c.args.values.now) c.args.sweep.now.residual s ≡ false) (states (sizes c.args.model.now)) c.loop-place.place [] (near p)
    c.loop-place.invariant (sym (test p) ∙ c.if-has_gap.false)

pub unreachable-requires : goal.unreachable-requires
unreachable-requires c =
    let m = c.args.model.now in
    let w = at (sizes m) c.args.values.now in
    let r = c.args.sweep.now.residual in
    let law = subst IsLawful c.model.view_is c.model.invariant in
    let some = state_count_some (sizes m) (sizes_some m law) in
    let all = take_all c.loop-place.place (states (sizes m)) (omega (arith, length-states (sizes m), c.requires.count)) in
    not_nowhere m c.requires.valid w r c.requires.sweep.residual (omega (arith, some, length-states (sizes m)))
    (subst (λ (l : List (List ℕ)). All (λ s. has_gap m w r s ≡ false) l) all c.loop-place.invariant)
