use Rattle.std.proofs.Common.{◌≡◌, ◌∙◌, ◌<◌, ℕ, List, length, flat_map, get_or, not, ap, sym, arith}
use Rattle.std.specs.Option.{option_map}
use Rattle.std.specs.Ordering.{int_eq}
use Rattle.spd_model.specs.Numbers.{numbers_below}
use Rattle.spd_model.specs.States.{sizes, states}
use Rattle.spd_model.specs.Chances.{Sum, one}
use Rattle.spd_model.proofs.CallerLemmas.Finds.{find_flat_none}
use Rattle.spd_model.proofs.CallerLemmas.Lists.{length-numbers_below, get_or-numbers_below}
use Rattle.spd_plain.specs.declared.reach.Reach.TheVariants.{Own}
use Rattle.spd_plain.specs.declared.space.Axis.{Axis}
use Rattle.spd_plain.specs.inner.Faults.{sum_record, sums_at, wrong_sum_of_var}
use Rattle.spd_plain.specs.inner.Reach.{reach_at}
use Rattle.spd_plain.proofs.FirstFaults.{found_here, none_here}
use Rattle.spd_plain.proofs.Known.{length-axes, length-reaches, var_is, is_axis, reach_read}
use Rattle.spd_plain.proofs.validity.wrong_sum_after.Goals as goal
use Rattle.spd_plain.proofs.validity.wrong_sum_after.Goals.{After-is_some}

abbrev nothing : Axis
nothing = record { var = 0; size = 0; after = 0 }

pub bounds-reaches-var : goal.bounds-reaches-var
bounds-reaches-var c = omega (arith, c.loop-var-test.true, length-axes c.requires.space c.as_slice-axes.ensures, length-reaches c.args.model.now c.args.action.now c.requires.reaches)

pub wrong_sum_of_var-wrong-requires-clause-axis : goal.wrong_sum_of_var-wrong-requires-clause-axis
wrong_sum_of_var-wrong-requires-clause-axis c = is_axis c.requires.space c.as_slice-axes.ensures c.loop-var.var c.loop-var-test.true nothing

pub wrong_sum_of_var-wrong-requires-clause-reach : goal.wrong_sum_of_var-wrong-requires-clause-reach
wrong_sum_of_var-wrong-requires-clause-reach c =
    reach_read c.args.model.now c.args.action.now c.requires.reaches c.loop-var.var Own (omega (arith, c.loop-var-test.true, length-axes c.requires.space c.as_slice-axes.ensures))
    ∙ ap (reach_at c.args.model.now c.args.action.now) (sym (var_is c.requires.space c.as_slice-axes.ensures c.loop-var.var c.loop-var-test.true nothing))

-- the sums of each variable
abbrev sums : After-is_some → ℕ → List Sum
sums c i = flat_map (sums_at c.args.model.now (c.args.number, c.args.action.now) i) (states (sizes c.args.model.now))

module _ (c : After-is_some) where
  near : c.loop-var.var < length c.args.model.now.vars
  near = omega (arith, length-axes c.requires.space c.as_slice-axes.ensures)

  -- what was found of this variable
  here : option_map sum_record c.wrong_sum_of_var-wrong.result
      ≡ wrong_sum_of_var c.args.model.now (c.args.number, c.args.action.now) (get_or (numbers_below (length c.args.model.now.vars)) c.loop-var.var 0)
  here =
      c.wrong_sum_of_var-wrong.ensures
      ∙ ap (wrong_sum_of_var c.args.model.now (c.args.number, c.args.action.now))
      (var_is c.requires.space c.as_slice-axes.ensures c.loop-var.var c.loop-var-test.true nothing ∙ sym (get_or-numbers_below (length c.args.model.now.vars) c.loop-var.var near))

pub returns-then-is_some : goal.returns-then-is_some
returns-then-is_some c =
    let p = (goal.at.returns-then-is_some c).After-is_some in
    found_here (λ (x : Sum). not (int_eq x.sum one)) (sums p) (numbers_below (length c.args.model.now.vars)) c.loop-var.var 0 (omega (arith, near p, length-numbers_below (length c.args.model.now.vars)))
    c.loop-var.invariant sum_record c.wrong_sum_of_var-wrong.result (here p) (sym c.is_some.ensures ∙ c.if-is_some.true)

pub loop-var-preserved : goal.loop-var-preserved
loop-var-preserved c =
    let p = (goal.at.loop-var-preserved c).After-is_some in
    none_here (λ (x : Sum). not (int_eq x.sum one)) (sums p) (numbers_below (length c.args.model.now.vars)) c.loop-var.var 0 (omega (arith, near p, length-numbers_below (length c.args.model.now.vars)))
    c.loop-var.invariant sum_record c.wrong_sum_of_var-wrong.result (here p) (sym c.is_some.ensures ∙ c.if-is_some.false)

pub returns : goal.returns
returns c =
    sym (find_flat_none (λ (x : Sum). not (int_eq x.sum one)) (λ i. flat_map (sums_at c.args.model.now (c.args.number, c.args.action.now) i) (states (sizes c.args.model.now)))
    (numbers_below (length c.args.model.now.vars)) c.loop-var.var
    (omega (arith, c.loop-var-test.false, length-numbers_below (length c.args.model.now.vars), length-axes c.requires.space c.as_slice-axes.ensures)) c.loop-var.invariant)
