use Rattle.std.proofs.Common.{◌≡◌, ◌∙◌, ℕ, List, ℤ, Ok, Err, Some, None, slice_index, ap, sym, subst, to_z, of_z}
use Rattle.std.proofs.lemmas.Int.{to_z-of_z}
use Rattle.std.specs.Int.{w128}
use borrow.Author.Rules.{sfits_of}
use Rattle.spd_model.specs.Lawful.{IsLawful}
use Rattle.spd_model.specs.States.{sizes}
use Rattle.spd_model.proofs.CallerLemmas.Results.{err_is}
use Rattle.spd_nodes.specs.Shown.{Shown, meaning}
use Rattle.spd_nodes.specs.States.{Agree}
use Rattle.spd_nodes.proofs.CallerLemmas.{has-made}
use Rattle.spd_search.specs.Found.{first_found}
use Rattle.spd_build.specs.declared.built.BuildFault.{BuildFault}
use Rattle.spd_build.specs.declared.built.BuildFault.TheVariants as Fault
use Rattle.spd_build.specs.Building.{HoldAdds, build_fault}
use Rattle.spd_build.specs.Functions.{table_functions, weight_sum, weights_of}
use Rattle.spd_build.specs.Tables.{MakesWeights, is_wrong, variable_sums}
use Rattle.spd_build.proofs.PlaceLaws.{first-wrong, none-wrong}
use Rattle.spd_build.proofs.WeighingLaws.{forest-cause}
use Rattle.spd_build.proofs.tables.weigh_variable.Goals as goal

-- ---- the weights aren't made

pub returns-in_err-sum-clause-made : goal.returns-in_err-sum-clause-made
returns-in_err-sum-clause-made g c =
    let m = c.args.model.now in
    let a = c.args.action.now in
    let i = c.args.var in
    let sums = variable_sums m (c.args.number, a) i in
    let t = g.F.Forest.shows c.weigh_values.new.forest in
    let e = c.in_err-sum.field-0.0 in
    subst (MakesWeights {A = Unit {0}} sums (table_functions m a i) (weights_of m a i) (g.F.Forest.shows c.args.forest.now) t c.args.weights.now.items c.weigh_values.new.weights.items)
    (sym (err_is c.from_residual.result (build_fault e) c.from_residual.ensures.1))
    (record { made = has-made c.in_err-sum.ensures.made; stand = tt; sums = tt; fault = forest-cause sums (table_functions m a i) t e c.in_err-sum.ensures.made.fault })

-- ---- there was no memory to look for a place

pub returns-in_err-first_found-clause-made : goal.returns-in_err-first_found-clause-made
returns-in_err-first_found-clause-made g c =
    let m = c.args.model.now in
    let a = c.args.action.now in
    let i = c.args.var in
    let s = g.F.Forest.shows c.args.forest.now in
    let t = g.F.Forest.shows c.weigh_values.new.forest in
    let told : MakesWeights {A = Unit {0}} (variable_sums m (c.args.number, a) i) (table_functions m a i) (weights_of m a i) s t c.args.weights.now.items c.weigh_values.new.weights.items (Err Fault.Memory) =
    record { made = has-made c.in_ok-sum.ensures.made; stand = tt; sums = tt; fault = tt } in
    let is : c.from_residual-in_err-first_found.result ≡ Err Fault.Memory = err_is c.from_residual-in_err-first_found.result Fault.Memory c.from_residual-in_err-first_found.ensures.1 in
    subst (λ (v : Shown). MakesWeights {A = Unit {0}} (variable_sums m (c.args.number, a) i) (table_functions m a i) (weights_of m a i) s v c.args.weights.now.items c.weigh_values.new.weights.items c.from_residual-in_err-first_found.result) (sym c.first_found.ensures.same)
    (subst (MakesWeights {A = Unit {0}} (variable_sums m (c.args.number, a) i) (table_functions m a i) (weights_of m a i) s t c.args.weights.now.items c.weigh_values.new.weights.items) (sym is) told)

pub returns-in_err-first_found-clause-adds : goal.returns-in_err-first_found-clause-adds
returns-in_err-first_found-clause-adds g c = subst (λ (v : Shown). HoldAdds v c.weigh_values.new.adds) (sym c.first_found.ensures.same) c.weigh_values.ensures.adds

-- ---- all sums are one

pub returns-in-None-clause-made : goal.returns-in-None-clause-made
returns-in-None-clause-made g c =
    let m = c.args.model.now in
    let a = c.args.action.now in
    let i = c.args.var in
    let law : IsLawful m = subst IsLawful c.model.view_is c.model.invariant in
    let s = g.F.Forest.shows c.args.forest.now in
    let t = g.F.Forest.shows c.weigh_values.new.forest in
    let f = meaning t c.in_ok-sum.sum in
    let made = c.in_ok-sum.ensures.made in
    let there : t.sizes ≡ sizes m = made.grows.sizes ∙ c.requires.layout in
    let same : Agree (sizes m) f (weight_sum m a i (slice_index (sizes m) i)) = subst (λ (z : List ℕ). Agree z f (weight_sum m a i (slice_index (sizes m) i))) there made.ok.value in
    let none : None ≡ first_found (sizes m) is_wrong f = sym c.in-None.is ∙ c.in_ok-first_found.ensures.found ∙ ap (λ (z : List ℕ). first_found z is_wrong f) there in
    subst (λ (v : Shown). MakesWeights {A = Unit {0}} (variable_sums m (c.args.number, a) i) (table_functions m a i) (weights_of m a i) s v c.args.weights.now.items c.weigh_values.new.weights.items (Ok tt)) (sym c.first_found.ensures.same)
    (record { made = has-made made; stand = c.in_ok-sum.ensures.stand; sums = none-wrong m law c.args.number a i f same none; fault = tt })

pub returns-in-None-clause-adds : goal.returns-in-None-clause-adds
returns-in-None-clause-adds g c = subst (λ (v : Shown). HoldAdds v c.weigh_values.new.adds) (sym c.first_found.ensures.same) c.weigh_values.ensures.adds

-- ---- a sum isn't one

pub returns-in-Some-clause-made : goal.returns-in-Some-clause-made
returns-in-Some-clause-made g c =
    let m = c.args.model.now in
    let a = c.args.action.now in
    let i = c.args.var in
    let law : IsLawful m = subst IsLawful c.model.view_is c.model.invariant in
    let s = g.F.Forest.shows c.args.forest.now in
    let t = g.F.Forest.shows c.weigh_values.new.forest in
    let f = meaning t c.in_ok-sum.sum in
    let made = c.in_ok-sum.ensures.made in
    let there : t.sizes ≡ sizes m = made.grows.sizes ∙ c.requires.layout in
    let same : Agree (sizes m) f (weight_sum m a i (slice_index (sizes m) i)) = subst (λ (z : List ℕ). Agree z f (weight_sum m a i (slice_index (sizes m) i))) there made.ok.value in
    let some : Some c.in-Some.found ≡ first_found (sizes m) is_wrong f = sym c.in-Some.is ∙ c.in_ok-first_found.ensures.found ∙ ap (λ (z : List ℕ). first_found z is_wrong f) there in
    let wrong : ℤ → BuildFault = λ x. Fault.Sum c.args.number i c.in-Some.found.state x in
    let told : MakesWeights {A = Unit {0}} (variable_sums m (c.args.number, a) i) (table_functions m a i) (weights_of m a i) s t c.args.weights.now.items c.weigh_values.new.weights.items (Err (wrong c.number_of.result)) =
    record { made = has-made made; stand = tt; sums = tt; fault = first-wrong m law c.args.number a i f same c.in-Some.found c.number_of.result some c.number_of.ensures } in
    subst (λ (v : Shown). MakesWeights {A = Unit {0}} (variable_sums m (c.args.number, a) i) (table_functions m a i) (weights_of m a i) s v c.args.weights.now.items c.weigh_values.new.weights.items (Err (wrong (to_z w128 (of_z w128 c.number_of.result))))) (sym c.first_found.ensures.same)
    (subst (λ (x : ℤ). MakesWeights {A = Unit {0}} (variable_sums m (c.args.number, a) i) (table_functions m a i) (weights_of m a i) s t c.args.weights.now.items c.weigh_values.new.weights.items (Err (wrong x))) (sym (to_z-of_z w128 c.number_of.result (sfits_of c.number_of.type_inv))) told)

pub returns-in-Some-clause-adds : goal.returns-in-Some-clause-adds
returns-in-Some-clause-adds g c = subst (λ (v : Shown). HoldAdds v c.weigh_values.new.adds) (sym c.first_found.ensures.same) c.weigh_values.ensures.adds
