use Rattle.std.proofs.Common.{rules, List, ℤ, ◌≡◌, ◌∙◌, ap, sym, subst, FitsSigned}
use Rattle.std.proofs.lemmas.Int.{to_z-of_z}
use mir.Syntax.{w128}
use Rattle.spd_scaled.specs.Scaled.{IsWithin}
use Rattle.spd_model.specs.States.{sizes, at, table_of}
use Rattle.spd_model.specs.Backup.{policy_of}
use Rattle.spd_model.specs.Turns.{turn, residual_of, place_of, error_of, stop_of, stop_value}
use Rattle.spd_model.proofs.CallerLemmas.Bounded.{residual_within, IsBounded-at}
use Rattle.spd_plain.proofs.solve.solve_valid.Goals as goal

pub error_of-requires : goal.error_of-requires
error_of-requires c =
    let m = c.args.model.now in
    let fits : FitsSigned w128 c.in_ok-stop.stop.sweep.residual = search rules in
    simp to_z-of_z (subst (IsWithin _) (sym c.in_ok-stop.ensures.sweep.residual)
    (residual_within m c.requires.space.law c.requires.valid (at (sizes m) c.in_ok-stop.stop.value.items) (IsBounded-at (sizes m) c.in_ok-stop.stop.value.items c.in_ok-stop.ensures.values.bounded)))

pub returns : goal.returns
returns c =
    let m = c.args.model.now in
    let s = c.in_ok-stop.stop in
    let fits : FitsSigned w128 s.sweep.residual = search rules in
    let error_fits : FitsSigned w128 c.error_of.result = search rules in
    let stop = c.in_ok-stop.ensures.stop ∙ ap (stop_of m c.args.turns) (to_z-of_z w128 c.args.span c.ranges.span) in
    let table : s.value.items ≡ turn m c.args.span (stop_of m c.args.turns c.args.span).turn =
    c.in_ok-stop.ensures.table ∙ (λ i. turn m (to_z-of_z w128 c.args.span c.ranges.span i) (stop i).turn) in
    let value : at (sizes m) s.value.items ≡ stop_value m c.args.turns c.args.span = ap (at (sizes m)) table in
    let residual = c.in_ok-stop.ensures.sweep.residual ∙ ap (residual_of m) value in
    let policy = c.from_vec-2.ensures ∙ c.in_ok-policy.ensures ∙ ap (λ (l : List ℤ). table_of (sizes m) (policy_of m (at (sizes m) l))) (c.deref-3.ensures.value ∙ table) in
    let place = c.in_ok-place.ensures ∙ (λ i. place_of m (at (sizes m) ((c.deref-5.ensures.value ∙ table) i)) (residual i)) in
    let error = simp to_z-of_z at c.error_of.ensures in
    simp to_z-of_z (λ i. record {
      turn = (stop i).turn;
      why = (stop i).why;
      value = (c.from_vec.ensures ∙ table) i;
      policy = policy i;
      residual = residual i;
      place = (place i).state;
      side = (place i).side;
      action = (place i).action;
      error = (error ∙ ap (error_of m) residual) i;
    })
