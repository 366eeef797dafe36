use Rattle.std.proofs.Common.{◌≡◌, ◌∙◌, ◌<◌, ◌+◌, ◌++◌, [], suc, ℕ, ℤ, pos, List, length, get_or, All, ap, sym, subst, arith}
use Rattle.spd_scaled.specs.Scaled.{IsWithin, floor_div, ceil_div}
use Rattle.spd_model.specs.declared.process.Action.{Action}
use Rattle.spd_model.specs.Process.{Process}
use Rattle.spd_model.specs.States.{sizes, state_count, at}
use Rattle.spd_model.specs.Chances.{one}
use Rattle.spd_model.specs.Backup.{Rounding}
use Rattle.spd_model.specs.Turns.{value_limit}
use Rattle.spd_plain.specs.declared.space.Axis.{Axis}
use Rattle.spd_plain.specs.inner.Axes.{IsAxis}
use Rattle.spd_plain.specs.inner.Chances.{TellsChances}
use Rattle.spd_plain.specs.inner.Expectations.{weighted, IsReady}
use Rattle.spd_plain.proofs.Known.{length-axes, var_is, is_axis}
use Rattle.spd_plain.proofs.Steps.{Expects, is_ready, expects_start, expects_more, expects_one, expects_all}
use Rattle.spd_plain.proofs.expectation.expect.Goals as goal
use Rattle.spd_plain.proofs.expectation.expect.Goals.{In_ok-tell_chances}

abbrev nothing : Axis
nothing = record { var = 0; size = 0; after = 0 }

-- the buffers begin as the table
begun : (m : Process) (a : Action) (s : List ℕ) (round : Rounding) (values before buffer : List ℤ) → before ≡ [] → buffer ≡ before ++ values → length values ≡ state_count (sizes m)
    → All (IsWithin (pos value_limit)) values → Expects m a s (at (sizes m) values) round 0 buffer
begun m a s round values before buffer none is count bounded =
    subst (Expects m a s (at (sizes m) values) round 0) (sym (is ∙ ap (λ (l : List ℤ). l ++ values) none)) (expects_start m a s round values count bounded)

pub loop-var-init : goal.loop-var-init
loop-var-init c = record {
  low = begun c.args.model.now c.args.action.now c.args.s.now floor_div c.args.values.now c.clear.new.self.items _ c.clear.ensures.items c.in_ok-extend_from_slice.ensures.items c.requires.count c.requires.values;
  high = begun c.args.model.now c.args.action.now c.args.s.now ceil_div c.args.values.now c.clear-2.new.self.items _ c.clear-2.ensures.items c.in_ok-extend_from_slice-2.ensures.items c.requires.count c.requires.values;
}

pub tell_chances-requires-clause-axis : goal.tell_chances-requires-clause-axis
tell_chances-requires-clause-axis c = is_axis c.requires.space c.as_slice-axes.ensures c.loop-var.var c.loop-var-test.true nothing

-- the axis of this turn, what is told of its variable, and the table before it
module _ (c : In_ok-tell_chances) where
  abbrev axis : Axis
  axis = get_or c.as_slice-axes.result.now c.loop-var.var nothing

  stands : IsAxis c.args.model.now axis
  stands = is_axis c.requires.space c.as_slice-axes.ensures c.loop-var.var c.loop-var-test.true nothing

  var : axis.var ≡ c.loop-var.var
  var = var_is c.requires.space c.as_slice-axes.ensures c.loop-var.var c.loop-var-test.true nothing

  module _ (told : List ℤ) (same : told ≡ c.tell_chances.new.chances.items) (round : Rounding) (table : List ℤ)
      (expects : Expects c.args.model.now c.args.action.now c.args.s.now (at (sizes c.args.model.now) c.args.values.now) round c.loop-var.var table) where
    tells : TellsChances c.args.model.now c.args.action.now c.args.s.now axis.var told
    tells = subst (TellsChances c.args.model.now c.args.action.now c.args.s.now axis.var) (sym same) c.in_ok-tell_chances.ensures

    here : Expects c.args.model.now c.args.action.now c.args.s.now (at (sizes c.args.model.now) c.args.values.now) round axis.var table
    here = subst (λ (j : ℕ). Expects c.args.model.now c.args.action.now c.args.s.now (at (sizes c.args.model.now) c.args.values.now) round j table) (sym var) expects

    ready : IsReady axis.size axis.after told table
    ready = is_ready c.requires.valid c.requires.action c.requires.state axis stands tells here

    summed : (after : List ℤ) → length after ≡ axis.after → ((j : ℕ) → j < axis.after → get_or after j (pos 0) ≡ round (weighted axis.size axis.after told table j) one)
        → All (IsWithin (pos value_limit)) after → Expects c.args.model.now c.args.action.now c.args.s.now (at (sizes c.args.model.now) c.args.values.now) round (c.loop-var.var + 1) after
    summed after count each bounded =
        let next : suc axis.var ≡ c.loop-var.var + 1 = omega (arith, var) in
        subst (λ (j : ℕ). Expects c.args.model.now c.args.action.now c.args.s.now (at (sizes c.args.model.now) c.args.values.now) round j after) next
        (expects_more c.args.model.now c.args.action.now c.args.s.now _ round axis stands told table after tells here count each bounded)

pub sum_out-requires : goal.sum_out-requires
sum_out-requires c = ready (goal.at.sum_out-requires c).In_ok-tell_chances c.deref.result.now c.deref.ensures.value floor_div c.loop-var.work.low.items c.loop-var.invariant.low

pub sum_out-requires-in-loop-var : goal.sum_out-requires-in-loop-var
sum_out-requires-in-loop-var c =
    ready (goal.at.sum_out-requires-in-loop-var c).In_ok-tell_chances c.deref-in-loop-var.result.now c.deref-in-loop-var.ensures.value ceil_div c.loop-var.work.high.items c.loop-var.invariant.high

pub loop-var-preserved : goal.loop-var-preserved
loop-var-preserved c = record {
  low = summed (goal.at.loop-var-preserved c).In_ok-tell_chances c.deref.result.now c.deref.ensures.value floor_div c.loop-var.work.low.items c.loop-var.invariant.low
      c.sum_out.new.values.items c.sum_out.ensures.count c.sum_out.ensures.each c.sum_out.ensures.bounded;
  high = summed (goal.at.loop-var-preserved c).In_ok-tell_chances c.deref-in-loop-var.result.now c.deref-in-loop-var.ensures.value ceil_div c.loop-var.work.high.items c.loop-var.invariant.high
      c.sum_out-in-loop-var.new.values.items c.sum_out-in-loop-var.ensures.count c.sum_out-in-loop-var.ensures.each c.sum_out-in-loop-var.ensures.bounded;
}

all_out : (c : goal.After-loop-var) → c.loop-var.var ≡ length c.args.model.now.vars
all_out c = omega (arith, length-axes c.requires.space c.as_slice-axes.ensures)

pub returns-clause-count : goal.returns-clause-count
returns-clause-count c = (
  expects_one c.args.model.now c.args.action.now c.args.s.now _ floor_div c.loop-var.var c.loop-var.work.low.items c.loop-var.invariant.low (all_out c),
  expects_one c.args.model.now c.args.action.now c.args.s.now _ ceil_div c.loop-var.var c.loop-var.work.high.items c.loop-var.invariant.high (all_out c),
)

pub returns-clause-low : goal.returns-clause-low
returns-clause-low c = expects_all c.args.model.now c.args.action.now c.args.s.now _ floor_div c.loop-var.var c.loop-var.work.low.items c.loop-var.invariant.low (all_out c)

pub returns-clause-high : goal.returns-clause-high
returns-clause-high c = expects_all c.args.model.now c.args.action.now c.args.s.now _ ceil_div c.loop-var.var c.loop-var.work.high.items c.loop-var.invariant.high (all_out c)
