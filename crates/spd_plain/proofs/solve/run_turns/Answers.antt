use Rattle.std.proofs.Common.{rules, refl, All, ℕ, Bool, true, false, ◌≡◌, ◌∙◌, ◌+◌, ◌-◌, ◌<◌, List, map, ap, sym, subst, FitsSigned, to_z, of_z, arith, add-one, ℤ, if◌then◌else◌}
use Rattle.std.proofs.lemmas.Int.{to_z-of_z}
use mir.Syntax.{w128}
use Rattle.spd_scaled.specs.Scaled.{IsWithin}
use Rattle.spd_model.specs.declared.Why.{Why}
use Rattle.spd_model.specs.declared.Why.TheVariants.{Done, Limit}
use Rattle.spd_model.specs.States.{sizes, at}
use Rattle.spd_model.specs.Ranges.{merged}
use Rattle.spd_model.specs.Stops.{first_from}
use Rattle.spd_model.specs.Turns.{turn, next_of, ranges_of, stop_of, residual_of, stops_at, rule_at}
use Rattle.spd_plain.specs.inner.Bounds.{range_of}
use Rattle.spd_plain.proofs.SweepLaws.{all_small}
use Rattle.spd_model.proofs.CallerLemmas.Finds.{first_here}
use Rattle.spd_plain.specs.inner.Sweeps.{AreLimited}
use Rattle.spd_plain.proofs.Runs.{can_sweep, residual_small, goes_on, first_at_limit, stop_here}
use Rattle.spd_plain.proofs.solve.run_turns.Goals as goal
use Rattle.spd_plain.proofs.solve.run_turns.Goals.{After-is_done}

pub sweep_states-requires-clause-values : goal.sweep_states-requires-clause-values
sweep_states-requires-clause-values c = can_sweep c.requires.valid c.requires.space _ c.loop-value.turn (c.deref.ensures.value ∙ c.loop-value.invariant.value)

pub is_done-requires : goal.is_done-requires
is_done-requires c =
    let fits : FitsSigned w128 c.in_ok-sweep.sweep.residual = search rules in
    simp to_z-of_z (subst (IsWithin _) (sym c.in_ok-sweep.ensures.sweep.residual)
    (residual_small c.requires.valid c.requires.space _ c.loop-value.turn (c.deref.ensures.value ∙ c.loop-value.invariant.value)))

-- the turn at which the run stands
module _ (c : After-is_done) where
  abbrev rule : ℕ → Bool
  rule = rule_at c.args.model.now (to_z w128 (of_z w128 c.args.span))

  -- whether the stop rule holds there
  test : c.is_done.result ≡ rule c.loop-value.turn
  test =
      let m = c.args.model.now in
      let fits : FitsSigned w128 c.in_ok-sweep.sweep.residual = search rules in
      let told = simp to_z-of_z at c.is_done.ensures in
      told ∙ ap (stops_at m) (c.in_ok-sweep.ensures.sweep.residual ∙ ap (λ (l : List ℤ). residual_of m (at (sizes m) l)) (c.deref.ensures.value ∙ c.loop-value.invariant.value))

  -- where the search for the stop ends there, the stop is there
  stop : (why : Why) → first_from rule c.loop-value.turn (c.args.turns - c.loop-value.turn) ≡ c.loop-value.turn → (b : Bool) → c.is_done.result ≡ b → why ≡ (if b then Done else Limit)
      → record { turn = c.loop-value.turn; why = why } ≡ stop_of c.args.model.now c.args.turns c.args.span
  stop why ends b is is_why =
      stop_here rule c.loop-value.turn c.args.turns why (sym c.loop-value.invariant.stop ∙ ends) (is_why ∙ ap (λ b. if b then Done else Limit) (sym is ∙ test))
      ∙ ap (stop_of c.args.model.now c.args.turns) (to_z-of_z w128 c.args.span c.ranges.span)

pub returns-then-is_done-clause-stop : goal.returns-then-is_done-clause-stop
returns-then-is_done-clause-stop c =
    let p = (goal.at.returns-then-is_done-clause-stop c).After-is_done in
    stop p Done (first_here (rule p) (c.args.turns - c.loop-value.turn) c.loop-value.turn (sym (test p) ∙ c.if-is_done.true)) true c.if-is_done.true refl

pub returns-then-is_done-clause-values : goal.returns-then-is_done-clause-values
returns-then-is_done-clause-values c = can_sweep c.requires.valid c.requires.space _ c.loop-value.turn c.loop-value.invariant.value

pub returns-then-turn-turns-clause-stop : goal.returns-then-turn-turns-clause-stop
returns-then-turn-turns-clause-stop c =
    let p = (goal.at.returns-then-turn-turns-clause-stop c).After-is_done in
    stop p Limit (first_at_limit (rule p) c.loop-value.turn (c.args.turns - c.loop-value.turn) (omega arith)) false c.if-is_done.false refl

pub returns-then-turn-turns-clause-values : goal.returns-then-turn-turns-clause-values
returns-then-turn-turns-clause-values c = can_sweep c.requires.valid c.requires.space _ c.loop-value.turn c.loop-value.invariant.value

pub merge_ranges-requires-clause-small : goal.merge_ranges-requires-clause-small
merge_ranges-requires-clause-small c = all_small c.deref-in-loop-value.result.now (subst (All AreLimited) (sym c.deref-in-loop-value.ensures.value) c.in_ok-sweep.ensures.limited)

pub loop-value-preserved : goal.loop-value-preserved
loop-value-preserved c =
    let p = (goal.at.loop-value-preserved c).After-is_done in
    let m = c.args.model.now in
    let k = c.loop-value.turn in
    let span = to_z w128 (of_z w128 c.args.span) in
    let ranges = ap (map range_of) c.deref-in-loop-value.ensures.value ∙ c.in_ok-sweep.ensures.sweep.ranges ∙ ap (λ (l : List ℤ). ranges_of m (at (sizes m) l)) c.deref.ensures.value in
    let next : c.in_ok-value-2.value.items ≡ next_of m span c.loop-value.value.items = c.in_ok-value-2.ensures ∙ ap (merged span) ranges in
    let less : k < c.args.turns = omega (arith, c.loop-value.invariant.within, c.if-turn-turns.false) in
    let left : c.args.turns - k - 1 ≡ c.args.turns - (k + 1) = omega arith in
    record {
      value = next ∙ ap (next_of m span) c.loop-value.invariant.value ∙ ap (turn m span) (sym (add-one k));
      stop = ap (first_from (rule p) (k + 1)) (sym left) ∙ sym (goes_on (rule p) k (c.args.turns - k) (omega arith) (sym (test p) ∙ c.if-is_done.false)) ∙ c.loop-value.invariant.stop;
      within = omega arith;
    }
