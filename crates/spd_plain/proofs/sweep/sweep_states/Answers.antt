use Rattle.std.proofs.Common.{rules, ◌≡◌, ◌∙◌, ◌<◌, ◌∷◌, length, get_or, ap, sym, subst, FitsSigned, pos, [], ◌-ℤ◌, arith, All}
use Rattle.std.specs.Int.{int_max}
use Rattle.std.proofs.lemmas.Int.{to_z-of_z}
use Rattle.std.proofs.lemmas.List.Elements.{All-append, All-nil, All-cons}
use mir.Syntax.{w128}
use Rattle.spd_model.specs.States.{sizes, states, state_count, at}
use Rattle.spd_model.proofs.CallerLemmas.Gaps.{gap_at}
use Rattle.spd_model.proofs.CallerLemmas.Greatest.{greatest_more}
use Rattle.spd_model.proofs.CallerLemmas.StateOrder.{length-states, at-get_or}
use Rattle.spd_plain.specs.inner.Bounds.{range_of}
use Rattle.spd_plain.specs.inner.Sweeps.{AreLimited}
use Rattle.spd_plain.proofs.Rows.{table_more}
use Rattle.spd_plain.proofs.SweepLaws.{range_at}
use Rattle.spd_plain.proofs.Tables.{length-all, state_is, state_read}
use Rattle.spd_plain.proofs.sweep.sweep_states.Goals as goal

pub bounds-values-place : goal.bounds-values-place
bounds-values-place c = omega (arith, c.loop-place-test.true, c.requires.values.count, length-all c.requires.values.space_is c.as_slice-states.ensures)

pub best_bounds-requires-clause-state : goal.best_bounds-requires-clause-state
best_bounds-requires-clause-state c = state_read c.requires.values.space_is c.as_slice-states.ensures c.loop-place.place c.loop-place-test.true c.index-states-place.is

pub gap-requires-clause-value : goal.gap-requires-clause-value
gap-requires-clause-value c =
    let fits : FitsSigned w128 (get_or c.args.values.now c.loop-place.place (pos 0)) = search rules in
    simp to_z-of_z (c.requires.values.bounded c.loop-place.place (pos 0) (omega (arith, c.loop-place-test.true, c.requires.values.count, length-all c.requires.values.space_is c.as_slice-states.ensures)))

pub loop-place-preserved : goal.loop-place-preserved
loop-place-preserved c =
    let m = c.args.model.now in
    let values = c.args.values.now in
    let w = at (sizes m) values in
    let k = c.loop-place.place in
    let b = c.in_ok-bounds.bounds in
    let near : k < state_count (sizes m) = omega (arith, c.loop-place-test.true, length-all c.requires.values.space_is c.as_slice-states.ensures) in
    let inside : k < length (states (sizes m)) = omega (arith, near, length-states (sizes m)) in
    let s_is = state_is c.requires.values.space_is c.as_slice-states.ensures k c.loop-place-test.true c.index-states-place.is in
    let range : range_of b ≡ range_at m w (get_or (states (sizes m)) k []) = (λ i. record { low = c.in_ok-bounds.ensures.low i; high = c.in_ok-bounds.ensures.high i }) ∙ ap (range_at m w) s_is in
    let value : get_or values k (pos 0) ≡ w (get_or (states (sizes m)) k []) = sym (at-get_or (sizes m) values k near) in
    let gap : int_max (b.high -ℤ get_or values k (pos 0)) (get_or values k (pos 0) -ℤ b.low) ≡ gap_at m w (get_or (states (sizes m)) k []) =
    λ i. int_max ((range i).high -ℤ value i) (value i -ℤ (range i).low) in
    let value_fits : FitsSigned w128 (get_or values k (pos 0)) = search rules in
    let gap_fits : FitsSigned w128 c.gap.result = search rules in
    let greater_fits : FitsSigned w128 c.max-residual.result = search rules in
    let here = simp to_z-of_z at c.gap.ensures in
    let greater = simp to_z-of_z at c.max-residual.ensures.value in
    record {
      ranges = table_more range_of (range_at m w) (states (sizes m)) k [] c.loop-place.ranges.items c.push.new.self.items _ inside c.loop-place.invariant.ranges c.in_ok-push.ensures.items range;
      residual = simp to_z-of_z (greater ∙ greatest_more (gap_at m w) (states (sizes m)) k [] (pos 0) _ c.gap.result inside c.loop-place.invariant.residual (here ∙ gap));
      limited = subst (All AreLimited) (sym c.in_ok-push.ensures.items) (All-append AreLimited c.loop-place.ranges.items (b ∷ []) c.loop-place.invariant.limited (All-cons AreLimited b [] c.in_ok-bounds.ensures.limited (All-nil AreLimited)));
    }
