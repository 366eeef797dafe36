use Rattle.std.proofs.Common.{◌≡◌, ◌∙◌, ℕ, length, map, ap, arith}
use Rattle.spd_model.specs.Numbers.{numbers_below}
use Rattle.spd_plain.specs.declared.space.Axis.{Axis}
use Rattle.spd_plain.specs.inner.Chances.{values_of}
use Rattle.spd_plain.proofs.Known.{length-axes, var_is, is_axis}
use Rattle.spd_plain.proofs.Tables.{map_below_more}
use Rattle.spd_plain.proofs.outlook.all_chances.Goals as goal

abbrev nothing : Axis
nothing = record { var = 0; size = 0; after = 0 }

pub kept_chances-requires-clause-axis : goal.kept_chances-requires-clause-axis
kept_chances-requires-clause-axis c = is_axis c.requires.space c.as_slice-axes.ensures c.loop-var.var c.loop-var-test.true nothing

pub loop-var-preserved : goal.loop-var-preserved
loop-var-preserved c =
    let values = values_of c.args.model.now c.args.action.now c.args.s.now in
    c.in_ok-push.ensures.items
    ∙ map_below_more values c.loop-var.var c.loop-var.chances.items c.in_ok-own.own c.loop-var.invariant
    (c.in_ok-own.ensures ∙ ap values (var_is c.requires.space c.as_slice-axes.ensures c.loop-var.var c.loop-var-test.true nothing))

pub returns : goal.returns
returns c =
    let all : c.loop-var.var ≡ length c.args.model.now.vars = omega (arith, length-axes c.requires.space c.as_slice-axes.ensures) in
    c.from_vec.ensures ∙ c.loop-var.invariant ∙ ap (λ (n : ℕ). map (values_of c.args.model.now c.args.action.now c.args.s.now) (numbers_below n)) all
