use Rattle.std.proofs.Common.{◌≡◌, ◌∙◌, ◌<◌, ◌≤◌, ℕ, List, length, map, flat_map, get_or, Ok, Err, ap, refl, sym, subst, arith}
use Rattle.std.specs.List.{enumerate_from}
use Rattle.std.proofs.lemmas.List.Elements.{All-get_or}
use Rattle.std.proofs.lemmas.List.FromFn.{length-enumerate_from}
use Rattle.spd_model.specs.declared.process.Action.{Action}
use Rattle.spd_model.specs.Chances.{sums_of}
use Rattle.spd_model.specs.Lawful.{IsAction, IsLawful}
use Rattle.spd_model.specs.Process.{Process}
use Rattle.spd_model.proofs.CallerLemmas.Results.{err_is}
use Rattle.spd_nodes.specs.States.{Function}
use Rattle.spd_nodes.proofs.CallerLemmas.{stand-grow}
use Rattle.spd_build.specs.Functions.{all_weights, tree_function}
use Rattle.spd_build.specs.Tables.{MakesWeights, action_functions, action_sums, action_weights, all_table_functions}
use Rattle.spd_build.proofs.WeighingLaws.{enumerated, flat-enumerate, weighs-all, weighs-failed, weighs-more, weighs-none}
use Rattle.spd_build.proofs.tables.weigh_actions.Goals as goal

pub loop-number-init : goal.loop-number-init
loop-number-init g c =
    let m = c.args.model.now in
    record {
      made = weighs-none (action_sums m) (λ (p : ℕ × Action). action_functions m p.1) (λ (p : ℕ × Action). action_weights m p.1) (enumerate_from 0 m.actions) (g.F.Forest.shows c.args.forest.now) c.layout.ensures.sound c.args.weights.now.items;
      adds = c.requires.adds;
      keeps = refl;
    }

-- ---- the next action

pub weigh_action-requires-clause-layout : goal.weigh_action-requires-clause-layout
weigh_action-requires-clause-layout g c = let here = c.loop-number.invariant in here.made.made.grows.sizes ∙ c.requires.layout

pub weigh_action-requires-clause-number : goal.weigh_action-requires-clause-number
weigh_action-requires-clause-number g c =
    let m = c.args.model.now in
    let law : IsLawful m = subst IsLawful c.model.view_is c.model.invariant in
    let below : c.loop-number.number < length m.actions = subst (λ (l : List Action). c.loop-number.number < length l) (c.as_slice-actions.ensures ∙ ap (λ (p : Process). p.actions) c.model.view_is) c.loop-number-test.true in
    let few = law.few_actions in
    omega (arith, below, few)

pub weigh_action-requires-clause-action : goal.weigh_action-requires-clause-action
weigh_action-requires-clause-action g c =
    let m = c.args.model.now in
    let law : IsLawful m = subst IsLawful c.model.view_is c.model.invariant in
    let k = c.loop-number.number in
    let a = c.index-actions-number.result in
    let actions = c.as_slice-actions.ensures ∙ ap (λ (p : Process). p.actions) c.model.view_is in
    let below : k < length m.actions = subst (λ (l : List Action). k < length l) actions c.loop-number-test.true in
    let is : a ≡ get_or m.actions k a = c.index-actions-number.is ∙ ap (λ (l : List Action). get_or l k a) actions in
    subst (IsAction m) (sym is) (All-get_or (IsAction m) m.actions k a below law.actions)

pub weigh_action-requires-clause-dds : goal.weigh_action-requires-clause-dds
weigh_action-requires-clause-dds g c =
    let here = c.loop-number.invariant in
    stand-grow here.made.made.grows c.args.dds.now (map (tree_function c.args.model.now) c.args.model.now.dds) c.requires.dds

pub weigh_action-requires-clause-adds : goal.weigh_action-requires-clause-adds
weigh_action-requires-clause-adds g c = c.loop-number.invariant.adds

pub returns-in_err-weigh_action-clause-made : goal.returns-in_err-weigh_action-clause-made
returns-in_err-weigh_action-clause-made g c =
    let m = c.args.model.now in
    let k = c.loop-number.number in
    let a = c.index-actions-number.result in
    let s = g.F.Forest.shows c.args.forest.now in
    let t = g.F.Forest.shows c.loop-number.forest in
    let u = g.F.Forest.shows c.weigh_action.new.forest in
    let actions = c.as_slice-actions.ensures ∙ ap (λ (p : Process). p.actions) c.model.view_is in
    let below : k < length m.actions = subst (λ (l : List Action). k < length l) actions c.loop-number-test.true in
    let near : k < length (enumerate_from 0 m.actions) = omega (arith, below, length-enumerate_from 0 m.actions) in
    let is : a ≡ get_or m.actions k a = c.index-actions-number.is ∙ ap (λ (l : List Action). get_or l k a) actions in
    let e = c.in_err-weigh_action.field-0.0 in
    let more = c.weigh_action.new.weights.items in
    let all : MakesWeights {A = Unit {0}} (sums_of m) (flat_map (λ (p : ℕ × Action). action_functions m p.1) (enumerate_from 0 m.actions)) (flat_map (λ (p : ℕ × Action). action_weights m p.1) (enumerate_from 0 m.actions)) s u c.args.weights.now.items more (Err e) =
    weighs-failed (action_sums m) (λ (p : ℕ × Action). action_functions m p.1) (λ (p : ℕ × Action). action_weights m p.1) (enumerate_from 0 m.actions) k (k, a) near (enumerated m.actions k a below is) s t u c.args.weights.now.items c.loop-number.weights.items c.loop-number.invariant.made
    more more e c.in_err-weigh_action.ensures.made in
    subst (MakesWeights {A = Unit {0}} (sums_of m) (all_table_functions m) (all_weights m) s u c.args.weights.now.items more)
    (sym (err_is c.from_residual.result e c.from_residual.ensures.1))
    (subst (λ (nodes : List Function). MakesWeights {A = Unit {0}} (sums_of m) nodes (all_weights m) s u c.args.weights.now.items more (Err e)) (flat-enumerate (action_functions m) 0 m.actions)
    (subst (λ (weights : List Function). MakesWeights {A = Unit {0}} (sums_of m) (flat_map (λ (p : ℕ × Action). action_functions m p.1) (enumerate_from 0 m.actions)) weights s u c.args.weights.now.items more (Err e)) (flat-enumerate (action_weights m) 0 m.actions) all))

pub returns-in_err-weigh_action-clause-adds : goal.returns-in_err-weigh_action-clause-adds
returns-in_err-weigh_action-clause-adds g c = c.weigh_action.ensures.adds

pub returns-in_err-weigh_action-clause-keeps : goal.returns-in_err-weigh_action-clause-keeps
returns-in_err-weigh_action-clause-keeps g c = c.weigh_action.ensures.keeps ∙ c.loop-number.invariant.keeps

pub loop-number-preserved : goal.loop-number-preserved
loop-number-preserved g c =
    let m = c.args.model.now in
    let k = c.loop-number.number in
    let a = c.index-actions-number.result in
    let s = g.F.Forest.shows c.args.forest.now in
    let t = g.F.Forest.shows c.loop-number.forest in
    let u = g.F.Forest.shows c.weigh_action.new.forest in
    let actions = c.as_slice-actions.ensures ∙ ap (λ (p : Process). p.actions) c.model.view_is in
    let below : k < length m.actions = subst (λ (l : List Action). k < length l) actions c.loop-number-test.true in
    let near : k < length (enumerate_from 0 m.actions) = omega (arith, below, length-enumerate_from 0 m.actions) in
    let is : a ≡ get_or m.actions k a = c.index-actions-number.is ∙ ap (λ (l : List Action). get_or l k a) actions in
    record {
      made = weighs-more (action_sums m) (λ (p : ℕ × Action). action_functions m p.1) (λ (p : ℕ × Action). action_weights m p.1) (enumerate_from 0 m.actions) k (k, a) near (enumerated m.actions k a below is) s t u c.args.weights.now.items c.loop-number.weights.items c.loop-number.invariant.made
          c.weigh_action.new.weights.items tt c.in_ok-weigh_action.ensures.made;
      adds = c.weigh_action.ensures.adds;
      keeps = c.weigh_action.ensures.keeps ∙ c.loop-number.invariant.keeps;
    }

-- ---- all actions

pub returns-clause-made : goal.returns-clause-made
returns-clause-made g c =
    let m = c.args.model.now in
    let s = g.F.Forest.shows c.args.forest.now in
    let t = g.F.Forest.shows c.loop-number.forest in
    let past : length m.actions ≤ c.loop-number.number = subst (λ (l : List Action). length l ≤ c.loop-number.number) (c.as_slice-actions.ensures ∙ ap (λ (p : Process). p.actions) c.model.view_is) c.loop-number-test.false in
    let all = weighs-all (action_sums m) (λ (p : ℕ × Action). action_functions m p.1) (λ (p : ℕ × Action). action_weights m p.1) (enumerate_from 0 m.actions) s t c.args.weights.now.items c.loop-number.weights.items
    c.loop-number.number (omega (arith, past, length-enumerate_from 0 m.actions)) c.loop-number.invariant.made tt in
    subst (λ (nodes : List Function). MakesWeights {A = Unit {0}} (sums_of m) nodes (all_weights m) s t c.args.weights.now.items c.loop-number.weights.items (Ok tt)) (flat-enumerate (action_functions m) 0 m.actions)
    (subst (λ (weights : List Function). MakesWeights {A = Unit {0}} (sums_of m) (flat_map (λ (p : ℕ × Action). action_functions m p.1) (enumerate_from 0 m.actions)) weights s t c.args.weights.now.items c.loop-number.weights.items (Ok tt)) (flat-enumerate (action_weights m) 0 m.actions) all)

pub returns-clause-adds : goal.returns-clause-adds
returns-clause-adds g c = c.loop-number.invariant.adds

pub returns-clause-keeps : goal.returns-clause-keeps
returns-clause-keeps g c = c.loop-number.invariant.keeps
