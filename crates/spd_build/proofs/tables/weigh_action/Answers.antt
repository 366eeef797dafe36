use Rattle.std.proofs.Common.{◌∙◌, ◌<◌, ◌≤◌, List, length, map, ap, refl, sym, subst, arith}
use Rattle.spd_model.specs.declared.process.Var.{Var}
use Rattle.spd_model.specs.Numbers.{numbers_below}
use Rattle.spd_model.specs.Process.{Process}
use Rattle.spd_model.proofs.CallerLemmas.Lists.{length-numbers_below}
use Rattle.spd_model.proofs.CallerLemmas.Results.{err_is}
use Rattle.spd_nodes.proofs.CallerLemmas.{stand-grow}
use Rattle.spd_build.specs.Functions.{table_functions, tree_function, weights_of}
use Rattle.spd_build.specs.Tables.{MakesWeights, action_functions, action_sums, action_weights, variable_sums}
use Rattle.spd_build.proofs.WeighingLaws.{numbered, weighs-all, weighs-failed, weighs-more, weighs-none}
use Rattle.spd_build.proofs.tables.weigh_action.Goals as goal

pub loop-var-init : goal.loop-var-init
loop-var-init g c =
    let m = c.args.model.now in
    let a = c.args.action.now in
    record {
      made = weighs-none (variable_sums m (c.args.number, a)) (table_functions m a) (weights_of m a) (numbers_below (length m.vars)) (g.F.Forest.shows c.args.forest.now) c.layout.ensures.sound c.args.weights.now.items;
      adds = c.requires.adds;
      keeps = refl;
    }

-- ---- the next variable

pub weigh_variable-requires-clause-layout : goal.weigh_variable-requires-clause-layout
weigh_variable-requires-clause-layout g c = let here = c.loop-var.invariant in here.made.made.grows.sizes ∙ c.requires.layout

pub weigh_variable-requires-clause-var : goal.weigh_variable-requires-clause-var
weigh_variable-requires-clause-var g c = subst (λ (l : List Var). c.loop-var.var < length l) (c.as_slice-count.ensures ∙ ap (λ (p : Process). p.vars) c.model.view_is) c.loop-var-test.true

pub weigh_variable-requires-clause-dds : goal.weigh_variable-requires-clause-dds
weigh_variable-requires-clause-dds g c =
    let here = c.loop-var.invariant in
    stand-grow here.made.made.grows c.args.dds.now (map (tree_function c.args.model.now) c.args.model.now.dds) c.requires.dds

pub weigh_variable-requires-clause-adds : goal.weigh_variable-requires-clause-adds
weigh_variable-requires-clause-adds g c = c.loop-var.invariant.adds

pub returns-in_err-weigh_variable-clause-made : goal.returns-in_err-weigh_variable-clause-made
returns-in_err-weigh_variable-clause-made g c =
    let m = c.args.model.now in
    let a = c.args.action.now in
    let s = g.F.Forest.shows c.args.forest.now in
    let t = g.F.Forest.shows c.loop-var.forest in
    let u = g.F.Forest.shows c.weigh_variable.new.forest in
    let e = c.in_err-weigh_variable.field-0.0 in
    let i = c.loop-var.var in
    let below : i < length m.vars = subst (λ (l : List Var). i < length l) (c.as_slice-count.ensures ∙ ap (λ (p : Process). p.vars) c.model.view_is) c.loop-var-test.true in
    let near : i < length (numbers_below (length m.vars)) = omega (arith, below, length-numbers_below (length m.vars)) in
    subst (MakesWeights {A = Unit {0}} (action_sums m (c.args.number, a)) (action_functions m a) (action_weights m a) s u c.args.weights.now.items c.weigh_variable.new.weights.items)
    (sym (err_is c.from_residual.result e c.from_residual.ensures.1))
    (weighs-failed (variable_sums m (c.args.number, a)) (table_functions m a) (weights_of m a) (numbers_below (length m.vars)) i i near (numbered (length m.vars) i below) s t u c.args.weights.now.items c.loop-var.weights.items c.loop-var.invariant.made
    c.weigh_variable.new.weights.items c.weigh_variable.new.weights.items e c.in_err-weigh_variable.ensures.made)

pub returns-in_err-weigh_variable-clause-adds : goal.returns-in_err-weigh_variable-clause-adds
returns-in_err-weigh_variable-clause-adds g c = c.weigh_variable.ensures.adds

pub returns-in_err-weigh_variable-clause-keeps : goal.returns-in_err-weigh_variable-clause-keeps
returns-in_err-weigh_variable-clause-keeps g c = c.weigh_variable.ensures.keeps ∙ c.loop-var.invariant.keeps

pub loop-var-preserved : goal.loop-var-preserved
loop-var-preserved g c =
    let m = c.args.model.now in
    let a = c.args.action.now in
    let s = g.F.Forest.shows c.args.forest.now in
    let t = g.F.Forest.shows c.loop-var.forest in
    let u = g.F.Forest.shows c.weigh_variable.new.forest in
    let i = c.loop-var.var in
    let below : i < length m.vars = subst (λ (l : List Var). i < length l) (c.as_slice-count.ensures ∙ ap (λ (p : Process). p.vars) c.model.view_is) c.loop-var-test.true in
    let near : i < length (numbers_below (length m.vars)) = omega (arith, below, length-numbers_below (length m.vars)) in
    record {
      made = weighs-more (variable_sums m (c.args.number, a)) (table_functions m a) (weights_of m a) (numbers_below (length m.vars)) i i near (numbered (length m.vars) i below) s t u c.args.weights.now.items c.loop-var.weights.items c.loop-var.invariant.made
          c.weigh_variable.new.weights.items tt c.in_ok-weigh_variable.ensures.made;
      adds = c.weigh_variable.ensures.adds;
      keeps = c.weigh_variable.ensures.keeps ∙ c.loop-var.invariant.keeps;
    }

-- ---- all variables

pub returns-clause-made : goal.returns-clause-made
returns-clause-made g c =
    let m = c.args.model.now in
    let a = c.args.action.now in
    let past : length m.vars ≤ c.loop-var.var = subst (λ (l : List Var). length l ≤ c.loop-var.var) (c.as_slice-count.ensures ∙ ap (λ (p : Process). p.vars) c.model.view_is) c.loop-var-test.false in
    weighs-all (variable_sums m (c.args.number, a)) (table_functions m a) (weights_of m a) (numbers_below (length m.vars)) (g.F.Forest.shows c.args.forest.now) (g.F.Forest.shows c.loop-var.forest) c.args.weights.now.items c.loop-var.weights.items
    c.loop-var.var (omega (arith, past, length-numbers_below (length m.vars))) c.loop-var.invariant.made tt

pub returns-clause-adds : goal.returns-clause-adds
returns-clause-adds g c = c.loop-var.invariant.adds

pub returns-clause-keeps : goal.returns-clause-keeps
returns-clause-keeps g c = c.loop-var.invariant.keeps
