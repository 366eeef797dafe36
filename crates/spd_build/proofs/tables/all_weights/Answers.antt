use Rattle.std.proofs.Common.{◌≡◌, ◌∙◌, List, [], length, arith, Result, ap, sym, subst, IfErr, Vec, Global}
use Rattle.std.specs.List.{AllZip}
use Rattle.spd_cons_core.specs.declared.key.Entry.{Entry}
use Rattle.spd_model.specs.Lawful.{IsLawful}
use Rattle.spd_model.specs.States.{sizes as sizes_of}
use Rattle.spd_model.proofs.CallerLemmas.Results.{err_is}
use Rattle.spd_model.proofs.CallerLemmas.StateOrder.{length-sizes}
use Rattle.spd_nodes.specs.declared.forest.StoreFault.{StoreFault}
use Rattle.spd_nodes.specs.Shown.{StandsFor}
use Rattle.spd_nodes.proofs.CallerLemmas.{has-none}
use Rattle.spd_build.specs.declared.built.BuildFault.{BuildFault}
use Rattle.spd_build.specs.Building.{build_fault}
use Rattle.spd_build.specs.Tables.{TableCause, all_table_functions}
use Rattle.spd_build.proofs.tables.all_weights.Goals as goal

-- ---- room for all weights

pub value_count-requires : goal.value_count-requires
value_count-requires g c =
    let law : IsLawful c.args.model.now = subst IsLawful c.model.view_is c.model.invariant in
    let few = law.few_vars in
    let sizes : length c.sizes.result.now ≡ length (sizes_of c.args.model.now) = ap length (c.sizes.ensures.sizes ∙ c.layout.ensures.sizes ∙ c.requires.layout) in
    omega (arith, few, sizes, length-sizes c.args.model.now)

-- ---- there was no room

pub returns-in_err-weights-clause-made : goal.returns-in_err-weights-clause-made
returns-in_err-weights-clause-made g c = has-none (g.F.Forest.shows c.args.forest.now) c.layout.ensures.sound (all_table_functions c.args.model.now)

pub returns-in_err-weights-clause-fault : goal.returns-in_err-weights-clause-fault
returns-in_err-weights-clause-fault g c =
    let m = c.args.model.now in
    let s = g.F.Forest.shows c.args.forest.now in
    let e = c.in_err-weights.field-0.0 in
    let cause : TableCause m s (build_fault e) = subst (λ (v : StoreFault). TableCause m s (build_fault v)) (sym c.in_err-weights.ensures.memory) tt in
    subst (λ (r : Result (Vec Entry Global) BuildFault). IfErr r (TableCause m s)) (sym (err_is c.from_residual.result (build_fault e) c.from_residual.ensures.1)) cause

-- ---- the weights aren't made

pub weigh_actions-requires-clause-dds : goal.weigh_actions-requires-clause-dds
weigh_actions-requires-clause-dds g c = c.requires.dds

pub weigh_actions-requires-clause-adds : goal.weigh_actions-requires-clause-adds
weigh_actions-requires-clause-adds g c = c.requires.adds

pub returns-in_err-weigh_actions-clause-made : goal.returns-in_err-weigh_actions-clause-made
returns-in_err-weigh_actions-clause-made g c = let made = c.in_err-weigh_actions.ensures.made in made.made

pub returns-in_err-weigh_actions-clause-fault : goal.returns-in_err-weigh_actions-clause-fault
returns-in_err-weigh_actions-clause-fault g c =
    let m = c.args.model.now in
    let t = g.F.Forest.shows c.weigh_actions.new.forest in
    let e = c.in_err-weigh_actions.field-0.0 in
    let made = c.in_err-weigh_actions.ensures.made in
    subst (λ (r : Result (Vec Entry Global) BuildFault). IfErr r (TableCause m t)) (sym (err_is c.from_residual-in_err-weigh_actions.result e c.from_residual-in_err-weigh_actions.ensures.1)) made.fault

-- ---- all are made

pub returns-clause-made : goal.returns-clause-made
returns-clause-made g c = let made = c.in_ok-weigh_actions.ensures.made in made.made

pub returns-clause-stand : goal.returns-clause-stand
returns-clause-stand g c =
    let s = g.F.Forest.shows c.args.forest.now in
    let none : AllZip (StandsFor s) c.in_ok-weights.weights.items [] = subst (λ (l : List Entry). AllZip (StandsFor s) l []) (sym c.in_ok-weights.ensures.empty) tt in
    let made = c.in_ok-weigh_actions.ensures.made in
    let stand = made.stand in
    stand.each [] none

pub returns-clause-sums : goal.returns-clause-sums
returns-clause-sums g c = let made = c.in_ok-weigh_actions.ensures.made in made.sums

pub returns-clause-adds : goal.returns-clause-adds
returns-clause-adds g c = c.weigh_actions.ensures.adds
