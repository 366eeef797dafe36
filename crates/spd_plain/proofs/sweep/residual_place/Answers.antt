use Rattle.std.proofs.Common.{rules, ◌≡◌, ◌∙◌, ◌<◌, refl, List, [], length, get_or, map, ap, FitsSigned, arith, pos, ℕ, if◌then◌else◌}
use Rattle.std.proofs.lemmas.Int.{to_z-of_z}
use mir.Syntax.{w128}
use Rattle.std.specs.Ordering.{int_eq}
use Rattle.spd_model.specs.declared.Side.TheVariants.{Above, Below}
use Rattle.spd_model.specs.Turns.{place_of}
use Rattle.spd_model.specs.States.{sizes, states, at, IsState}
use Rattle.spd_plain.specs.declared.ranges.Bounds.{Bounds}
use Rattle.spd_plain.specs.inner.Bounds.{range_of}
use Rattle.spd_plain.specs.inner.Sweeps.{action_on}
use Rattle.spd_plain.proofs.SweepLaws.{length-ranges, above_here, placed, place_is}
use Rattle.spd_plain.proofs.Rows.{length-rows, row_read}
use Rattle.spd_plain.proofs.Tables.{length-all, state_is, state_read}
use Rattle.spd_plain.proofs.sweep.residual_place.Goals as goal
use Rattle.spd_plain.proofs.sweep.residual_place.Goals.{After-index-as_slice-place}

abbrev nothing : Bounds
nothing = record { low = pos 0; high = pos 0 }

pub bounds-ranges-place : goal.bounds-ranges-place
bounds-ranges-place c =
    let are = ap (map range_of) c.as_slice-ranges.ensures.value ∙ c.requires.sweep.ranges in
    omega (arith, length-ranges c.args.model.now c.args.values.now c.as_slice-ranges.result.now are, c.first_place_of-place.ensures.within)

pub bounds-rows-place : goal.bounds-rows-place
bounds-rows-place c = omega (arith, length-rows c.args.model.now c.args.rows.now c.requires.rows, c.first_place_of-place.ensures.within)

pub bounds-as_slice-place : goal.bounds-as_slice-place
bounds-as_slice-place c = omega (arith, c.first_place_of-place.ensures.within, length-all c.requires.values.space_is c.as_slice.ensures)

-- the state at that place
module _ (c : After-index-as_slice-place) where
  inside : c.first_place_of-place.result < length c.as_slice.result.now
  inside = omega (arith, c.first_place_of-place.ensures.within, length-all c.requires.values.space_is c.as_slice.ensures)

  state : IsState (sizes c.args.model.now) c.index-as_slice-place.result
  state = state_read c.requires.values.space_is c.as_slice.ensures c.first_place_of-place.result inside c.index-as_slice-place.is

  stands : c.index-as_slice-place.result ≡ get_or (states (sizes c.args.model.now)) c.first_place_of-place.result []
  stands = state_is c.requires.values.space_is c.as_slice.ensures c.first_place_of-place.result inside c.index-as_slice-place.is

pub best_action-requires-clause-state : goal.best_action-requires-clause-state
best_action-requires-clause-state c = state (goal.at.best_action-requires-clause-state c).After-index-as_slice-place

pub best_action-requires-clause-outlooks : goal.best_action-requires-clause-outlooks
best_action-requires-clause-outlooks c =
    c.as_slice-2.ensures
    ∙ row_read c.args.model.now c.args.rows.now c.first_place_of-place.result c.index-rows-place.result c.index-as_slice-place.result c.requires.rows c.first_place_of-place.ensures.within c.index-rows-place.is
    (stands (goal.at.best_action-requires-clause-outlooks c).After-index-as_slice-place)

pub same_state-requires : goal.same_state-requires
same_state-requires c = state (goal.at.same_state-requires c).After-index-as_slice-place

pub returns : goal.returns
returns c =
    let m = c.args.model.now in
    let values = c.args.values.now in
    let w = at (sizes m) values in
    let ranges = c.as_slice-ranges.result.now in
    let k = c.first_place_of-place.result in
    let s = get_or (states (sizes m)) k [] in
    let r = c.args.sweep.now.residual in
    let near = c.first_place_of-place.ensures.within in
    let are = ap (map range_of) c.as_slice-ranges.ensures.value ∙ c.requires.sweep.ranges in
    let value_fits : FitsSigned w128 (get_or values k (pos 0)) = search rules in
    let residual_fits : FitsSigned w128 r = search rules in
    let side = simp to_z-of_z at c.side_of-side.ensures in
    let above = above_here m values ranges are k (get_or ranges k nothing) nothing near refl in
    let s_is = stands (goal.at.returns c).After-index-as_slice-place in
    let action = c.in_ok-action.ensures ∙ ap (λ (t : List ℕ). action_on c.side_of-side.result m w t) s_is in
    let placing : placed s c.side_of-side.result c.in_ok-action.action ≡ place_of m w r = place_is m w r s c.side_of-side.result c.in_ok-action.action c.first_place_of-place.ensures.first
    (side ∙ ap (λ x. if int_eq r x then Above else Below) above) action in
    ap (λ (l : List ℕ). placed l c.side_of-side.result c.in_ok-action.action) (c.same_state.ensures ∙ s_is) ∙ placing
