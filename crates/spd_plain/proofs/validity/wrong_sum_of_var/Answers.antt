use Rattle.std.proofs.Common.{◌≡◌, ◌∙◌, ◌<◌, [], length, not, get_or, ap, sym, arith}
use Rattle.std.specs.Option.{option_map}
use Rattle.std.specs.Ordering.{int_eq}
use Rattle.spd_model.specs.States.{sizes, states}
use Rattle.spd_model.specs.Chances.{Sum, one}
use Rattle.spd_model.proofs.CallerLemmas.StateOrder.{length-states}
use Rattle.spd_plain.specs.inner.Faults.{sum_record, sums_at, wrong_sum_at}
use Rattle.spd_plain.proofs.FirstFaults.{found_here, none_here}
use Rattle.spd_plain.proofs.Tables.{length-all, state_is, state_read}
use Rattle.spd_plain.proofs.validity.wrong_sum_of_var.Goals as goal
use Rattle.spd_plain.proofs.validity.wrong_sum_of_var.Goals.{After-is_some}

pub wrong_sum_at-wrong-requires-clause-state : goal.wrong_sum_at-wrong-requires-clause-state
wrong_sum_at-wrong-requires-clause-state c = state_read c.requires.space c.as_slice-s-items.ensures c.loop-s.s-index c.loop-s-test.true c.s-item.is

module _ (c : After-is_some) where
  near : c.loop-s.s-index < length (states (sizes c.args.model.now))
  near = omega (arith, length-all c.requires.space c.as_slice-s-items.ensures, length-states (sizes c.args.model.now))

  -- what was found at this state
  here : option_map sum_record c.wrong_sum_at-wrong.result
      ≡ wrong_sum_at c.args.model.now (c.args.number, c.args.action.now) c.args.axis.now.var (get_or (states (sizes c.args.model.now)) c.loop-s.s-index [])
  here =
      c.wrong_sum_at-wrong.ensures
      ∙ ap (wrong_sum_at c.args.model.now (c.args.number, c.args.action.now) c.args.axis.now.var) (state_is c.requires.space c.as_slice-s-items.ensures c.loop-s.s-index c.loop-s-test.true c.s-item.is)

pub returns-then-is_some : goal.returns-then-is_some
returns-then-is_some c =
    let p = (goal.at.returns-then-is_some c).After-is_some in
    found_here (λ (x : Sum). not (int_eq x.sum one)) (sums_at c.args.model.now (c.args.number, c.args.action.now) c.args.axis.now.var) (states (sizes c.args.model.now)) c.loop-s.s-index [] (near p)
    c.loop-s.invariant sum_record c.wrong_sum_at-wrong.result (here p) (sym c.is_some.ensures ∙ c.if-is_some.true)

pub loop-s-preserved : goal.loop-s-preserved
loop-s-preserved c =
    let p = (goal.at.loop-s-preserved c).After-is_some in
    none_here (λ (x : Sum). not (int_eq x.sum one)) (sums_at c.args.model.now (c.args.number, c.args.action.now) c.args.axis.now.var) (states (sizes c.args.model.now)) c.loop-s.s-index [] (near p)
    c.loop-s.invariant sum_record c.wrong_sum_at-wrong.result (here p) (sym c.is_some.ensures ∙ c.if-is_some.false)
