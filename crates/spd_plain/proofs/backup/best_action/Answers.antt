use Rattle.std.proofs.Common.{rules, ◌∙◌, List, ℤ, ℕ, ap, map, FitsSigned}
use Rattle.std.proofs.lemmas.Int.{to_z-of_z}
use Rattle.std.proofs.lemmas.List.{take_all}
use mir.Syntax.{w128}
use Rattle.spd_scaled.proofs.CallerLemmas.Ring.{int_lt-true, int_lt-false}
use Rattle.spd_model.specs.declared.process.Action.{Action}
use Rattle.spd_model.specs.Process.{Process}
use Rattle.spd_model.specs.Numbers.{greatest, first_place}
use Rattle.spd_model.specs.States.{sizes, at}
use Rattle.spd_model.proofs.CallerLemmas.Greatest.{first_best_more, first_best_new, first_place_is}
use Rattle.spd_plain.specs.inner.Sweeps.{bound_on}
use Rattle.spd_plain.proofs.Rows.{first_on}
use Rattle.spd_plain.proofs.backup.best_action.Goals as goal
use Rattle.spd_plain.proofs.backup.best_action.Goals.{then-best-bound, else-best-bound}

pub loop-number-preserved : goal.loop-number-preserved
loop-number-preserved c =
    let f : Action → ℤ = λ a. bound_on c.args.side c.args.model.now (at (sizes c.args.model.now) c.args.values.now) a c.args.s.now in
    let here = c.in_ok-bound.ensures ∙ ap f c.index-actions-number.is in
    let fits : FitsSigned w128 c.in_ok-bound.bound = search rules in
    elim c.if-best-bound.branch [
      | then-best-bound w ↦ first_best_new f c.as_slice-actions.result.now c.loop-number.number c.index-actions-number.result _ _ _ c.loop-number-test.true c.loop-number.invariant here _ _
          (simp to_z-of_z at w.best-is) w.first-is (int_lt-true _ _ (simp to_z-of_z at w.if-best-bound.true))
      | else-best-bound w ↦ first_best_more f c.as_slice-actions.result.now c.loop-number.number c.index-actions-number.result _ _ _ c.loop-number-test.true c.loop-number.invariant here _ _
          w.best-is w.first-is (int_lt-false _ _ (simp to_z-of_z at w.if-best-bound.false))
    ]

pub returns : goal.returns
returns c =
    let m = c.args.model.now in
    let w = at (sizes m) c.args.values.now in
    let f : Action → ℤ = λ a. bound_on c.args.side m w a c.args.s.now in
    let first : List Action → ℕ = λ l. first_place (greatest (map f l)) (map f l) in
    let all = take_all c.loop-number.number c.as_slice-actions.result.now c.loop-number-test.false ∙ c.as_slice-actions.ensures ∙ ap (λ (m : Process). m.actions) c.model.view_is in
    first_place_is _ _ c.loop-number.first c.loop-number.invariant ∙ ap first all ∙ first_on c.args.side m w c.args.s.now
