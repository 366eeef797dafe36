use Rattle.std.proofs.Common.{◌≡◌, ◌+◌, ◌<◌, ◌≤◌, ◌∙◌, ℕ, List, suc, length, map, get_or, slice_index, take_all, Ok, Err, ap, sym, subst, arith, add-one, All}
use Rattle.std.proofs.lemmas.List.{length-map}
use Rattle.spd_model.specs.declared.tree.Tree.{Tree}
use Rattle.spd_model.specs.Lawful.{IsLawful, Fits}
use Rattle.spd_model.specs.Numbers.{numbers_below}
use Rattle.spd_model.specs.States.{sizes}
use Rattle.spd_model.specs.Trees.{parts_of}
use Rattle.spd_model.proofs.CallerLemmas.Results.{err_is}
use Rattle.spd_model.proofs.CallerLemmas.StateOrder.{length-sizes}
use Rattle.spd_nodes.specs.Made.{HasMade}
use Rattle.spd_nodes.specs.Shown.{StandsFor, MakesAmong}
use Rattle.spd_nodes.proofs.CallerLemmas.{among-fails, has-made, has-then, stand-length, stands-grows}
use Rattle.spd_apply.proofs.CallerLemmas.{answers-grow}
use Rattle.spd_build.specs.Fitting.{StandForTrees}
use Rattle.spd_build.specs.Functions.{table_functions, tree_function, weight, weight_sum}
use Rattle.spd_build.specs.Tables.{StandAfter}
use Rattle.spd_build.proofs.TableLaws.{diagram-failed, first-sum, fits-all, some-values, sum-among, sum-fits, sum-made, table-made, weight-among, weight-made, weights-more}
use Rattle.spd_build.proofs.WeighingLaws.{after-grow, after-none, after-push}
use Rattle.spd_build.proofs.tables.weigh_values.Goals as goal

-- ---- the table

pub tree_of-requires-clause-named : goal.tree_of-requires-clause-named
tree_of-requires-clause-named g c =
    let count : length c.args.dds.now ≡ length c.args.model.now.dds = stand-length (g.F.Forest.shows c.args.forest.now) c.args.dds.now (map (tree_function c.args.model.now) c.args.model.now.dds) c.requires.dds ∙ length-map c.args.model.now.dds (tree_function c.args.model.now) in
    omega (arith, count)

pub tree_of-requires-clause-dds : goal.tree_of-requires-clause-dds
tree_of-requires-clause-dds g c =
    let m = c.args.model.now in
    let s = g.F.Forest.shows c.args.forest.now in
    let count : length c.args.dds.now ≡ length c.args.model.now.dds = stand-length (g.F.Forest.shows c.args.forest.now) c.args.dds.now (map (tree_function c.args.model.now) c.args.model.now.dds) c.requires.dds ∙ length-map c.args.model.now.dds (tree_function c.args.model.now) in
    subst (λ (l : List Tree). StandForTrees s m l c.args.dds.now) (sym (take_all (length c.args.dds.now) m.dds (omega (arith, count)))) c.requires.dds

pub tree_of-requires-clause-fits : goal.tree_of-requires-clause-fits
tree_of-requires-clause-fits g c =
    let m = c.args.model.now in
    let tree = c.index-as_slice-var.result in
    let is : tree ≡ get_or c.args.action.now.tables c.args.var tree = c.index-as_slice-var.is ∙ ap (λ (l : List Tree). get_or l c.args.var tree) c.as_slice.ensures in
    let count : length c.args.dds.now ≡ length c.args.model.now.dds = stand-length (g.F.Forest.shows c.args.forest.now) c.args.dds.now (map (tree_function c.args.model.now) c.args.model.now.dds) c.requires.dds ∙ length-map c.args.model.now.dds (tree_function c.args.model.now) in
    fits-all m (length c.args.dds.now) tree (omega (arith, count)) (subst (λ (u : Tree). All (Fits m) (parts_of m u)) (sym is) ((c.requires.action.tables c.args.var tree c.requires.var).form.fits))

pub returns-in_err-table-clause-made : goal.returns-in_err-table-clause-made
returns-in_err-table-clause-made g c =
    let m = c.args.model.now in
    let a = c.args.action.now in
    let i = c.args.var in
    let s = g.F.Forest.shows c.args.forest.now in
    let t = g.F.Forest.shows c.tree_of.new.forest in
    let tables : c.args.var < length c.args.action.now.tables = let all = c.requires.action.one_each in let near = c.requires.var in omega arith in
    let tree = c.index-as_slice-var.result in
    let is : tree ≡ get_or c.args.action.now.tables c.args.var tree = c.index-as_slice-var.is ∙ ap (λ (l : List Tree). get_or l c.args.var tree) c.as_slice.ensures in
    let e = c.in_err-table.field-0.0 in
    subst (MakesAmong s t (weight_sum m a i (slice_index (sizes m) i)) (table_functions m a i)) (sym (err_is c.from_residual.result e c.from_residual.ensures.1))
    (among-fails e (table-made m a i tree tree tables is {s = s} {t = t} c.layout.ensures.sound {r = Err e} c.in_err-table.ensures.made))

pub returns-in_err-table-clause-adds : goal.returns-in_err-table-clause-adds
returns-in_err-table-clause-adds g c = answers-grow c.requires.adds c.in_err-table.ensures.made.grows

-- ---- the first weight

pub returns-in_err-sum-clause-made : goal.returns-in_err-sum-clause-made
returns-in_err-sum-clause-made g c =
    let m = c.args.model.now in
    let a = c.args.action.now in
    let i = c.args.var in
    let law : IsLawful c.args.model.now = subst IsLawful c.model.view_is c.model.invariant in
    let s = g.F.Forest.shows c.args.forest.now in
    let t = g.F.Forest.shows c.tree_of.new.forest in
    let u = g.F.Forest.shows c.weigh_value.new.forest in
    let tables : c.args.var < length c.args.action.now.tables = let all = c.requires.action.one_each in let near = c.requires.var in omega arith in
    let tree = c.index-as_slice-var.result in
    let is : tree ≡ get_or c.args.action.now.tables c.args.var tree = c.index-as_slice-var.is ∙ ap (λ (l : List Tree). get_or l c.args.var tree) c.as_slice.ensures in
    let table = table-made m a i tree tree tables is {s = s} {t = t} c.layout.ensures.sound {r = Ok c.in_ok-table.table} c.in_ok-table.ensures.made in
    let same : t.sizes ≡ sizes m = table.grows.sizes ∙ c.requires.layout in
    let first : 0 < slice_index (sizes c.args.model.now) c.args.var = some-values m a i law c.requires.action c.requires.var in
    let e = c.in_err-sum.field-0.0 in
    let own = weight-made m a i law c.requires.action c.requires.var t table.sound same c.in_ok-table.table table.ok 0 first u (Err e) c.in_err-sum.ensures.made in
    subst (MakesAmong s u (weight_sum m a i (slice_index (sizes m) i)) (table_functions m a i)) (sym (err_is c.from_residual-in_err-sum.result e c.from_residual-in_err-sum.ensures.1))
    (diagram-failed e (weight-among m a i 0 first) (has-made table) own)

pub returns-in_err-sum-clause-adds : goal.returns-in_err-sum-clause-adds
returns-in_err-sum-clause-adds g c = answers-grow (answers-grow c.requires.adds c.in_ok-table.ensures.made.grows) c.in_err-sum.ensures.made.grows

pub loop-value-init : goal.loop-value-init
loop-value-init g c =
    let m = c.args.model.now in
    let a = c.args.action.now in
    let i = c.args.var in
    let law : IsLawful c.args.model.now = subst IsLawful c.model.view_is c.model.invariant in
    let s = g.F.Forest.shows c.args.forest.now in
    let t = g.F.Forest.shows c.tree_of.new.forest in
    let u = g.F.Forest.shows c.weigh_value.new.forest in
    let tables : c.args.var < length c.args.action.now.tables = let all = c.requires.action.one_each in let near = c.requires.var in omega arith in
    let tree = c.index-as_slice-var.result in
    let is : tree ≡ get_or c.args.action.now.tables c.args.var tree = c.index-as_slice-var.is ∙ ap (λ (l : List Tree). get_or l c.args.var tree) c.as_slice.ensures in
    let table = table-made m a i tree tree tables is {s = s} {t = t} c.layout.ensures.sound {r = Ok c.in_ok-table.table} c.in_ok-table.ensures.made in
    let same : t.sizes ≡ sizes m = table.grows.sizes ∙ c.requires.layout in
    let first : 0 < slice_index (sizes c.args.model.now) c.args.var = some-values m a i law c.requires.action c.requires.var in
    let own = weight-made m a i law c.requires.action c.requires.var t table.sound same c.in_ok-table.table table.ok 0 first u (Ok c.in_ok-sum.sum) c.in_ok-sum.ensures.made in
    record {
      within = first;
      made = has-then (weight-among m a i 0 first) (has-made table) (has-made own);
      table = stands-grows own.grows table.ok;
      sum = first-sum m a i law c.requires.action c.requires.var u own.sound (own.grows.sizes ∙ same) c.in_ok-sum.sum own.ok;
      stand = after-push c.in_ok-sum.sum (weight m a i 0) (after-grow (after-none s c.args.weights.now.items) table.grows) own.grows own.ok c.in_ok-sum.ensures.pushed;
      adds = answers-grow (answers-grow c.requires.adds table.grows) own.grows;
      keeps = c.weigh_value.ensures.keeps ∙ c.tree_of.ensures.keeps;
    }

-- ---- the next weight

pub weigh_value-requires-in-loop-value-clause-known : goal.weigh_value-requires-in-loop-value-clause-known
weigh_value-requires-in-loop-value-clause-known g c = c.loop-value.invariant.table.knows

pub weigh_value-requires-in-loop-value-clause-whole : goal.weigh_value-requires-in-loop-value-clause-whole
weigh_value-requires-in-loop-value-clause-whole g c = c.loop-value.invariant.table.whole

pub weigh_value-requires-in-loop-value-clause-few : goal.weigh_value-requires-in-loop-value-clause-few
weigh_value-requires-in-loop-value-clause-few g c =
    let law : IsLawful c.args.model.now = subst IsLawful c.model.view_is c.model.invariant in
    let here = c.loop-value.invariant in
    let many = ap length (here.made.grows.sizes ∙ c.requires.layout) in let few = law.few_vars in omega (arith, many, length-sizes c.args.model.now)

pub weigh_value-requires-in-loop-value-clause-var : goal.weigh_value-requires-in-loop-value-clause-var
weigh_value-requires-in-loop-value-clause-var g c =
    let here = c.loop-value.invariant in
    let many = ap length (here.made.grows.sizes ∙ c.requires.layout) in let near = c.requires.var in omega (arith, many, length-sizes c.args.model.now)

pub weigh_value-requires-in-loop-value-clause-value : goal.weigh_value-requires-in-loop-value-clause-value
weigh_value-requires-in-loop-value-clause-value g c =
    let here = c.loop-value.invariant in
    let size : slice_index c.sizes.result.now c.args.var ≡ slice_index (sizes c.args.model.now) c.args.var = ap (λ (l : List ℕ). slice_index l c.args.var) (c.sizes.ensures.sizes ∙ c.layout.ensures.sizes ∙ c.requires.layout) in
    let below : c.loop-value.value < slice_index (sizes c.args.model.now) c.args.var = subst (λ (n : ℕ). c.loop-value.value < n) size c.loop-value-test.true in
    subst (λ (l : List ℕ). c.loop-value.value < slice_index l c.args.var) (sym (here.made.grows.sizes ∙ c.requires.layout)) below

pub returns-in_err-weight-clause-made : goal.returns-in_err-weight-clause-made
returns-in_err-weight-clause-made g c =
    let m = c.args.model.now in
    let a = c.args.action.now in
    let i = c.args.var in
    let law : IsLawful c.args.model.now = subst IsLawful c.model.view_is c.model.invariant in
    let s = g.F.Forest.shows c.args.forest.now in
    let w = g.F.Forest.shows c.loop-value.forest in
    let x = g.F.Forest.shows c.weigh_value-in-loop-value.new.forest in
    let here = c.loop-value.invariant in
    let v = c.loop-value.value in
    let size : slice_index c.sizes.result.now c.args.var ≡ slice_index (sizes c.args.model.now) c.args.var = ap (λ (l : List ℕ). slice_index l c.args.var) (c.sizes.ensures.sizes ∙ c.layout.ensures.sizes ∙ c.requires.layout) in
    let below : c.loop-value.value < slice_index (sizes c.args.model.now) c.args.var = subst (λ (n : ℕ). c.loop-value.value < n) size c.loop-value-test.true in
    let same : w.sizes ≡ sizes m = here.made.grows.sizes ∙ c.requires.layout in
    let e = c.in_err-weight.field-0.0 in
    let own = weight-made m a i law c.requires.action c.requires.var w here.made.sound same c.in_ok-table.table here.table v below x (Err e) c.in_err-weight.ensures.made in
    subst (MakesAmong s x (weight_sum m a i (slice_index (sizes m) i)) (table_functions m a i)) (sym (err_is c.from_residual-in_err-weight.result e c.from_residual-in_err-weight.ensures.1))
    (diagram-failed e (weight-among m a i v below) here.made own)

pub returns-in_err-weight-clause-adds : goal.returns-in_err-weight-clause-adds
returns-in_err-weight-clause-adds g c = answers-grow c.loop-value.invariant.adds c.in_err-weight.ensures.made.grows

pub returns-in_err-weight-clause-keeps : goal.returns-in_err-weight-clause-keeps
returns-in_err-weight-clause-keeps g c = c.weigh_value-in-loop-value.ensures.keeps ∙ c.loop-value.invariant.keeps

-- ---- the next sum

pub apply-requires-clause-left : goal.apply-requires-clause-left
apply-requires-clause-left g c = c.in_ok-weight.ensures.made.grows.knows c.loop-value.sum c.loop-value.invariant.sum.knows

pub apply-requires-clause-left_whole : goal.apply-requires-clause-left_whole
apply-requires-clause-left_whole g c =
    let here = c.loop-value.invariant in
    let stands = stands-grows c.in_ok-weight.ensures.made.grows here.sum in stands.whole

pub apply-requires-clause-fit : goal.apply-requires-clause-fit
apply-requires-clause-fit g c =
    let m = c.args.model.now in
    let a = c.args.action.now in
    let i = c.args.var in
    let law : IsLawful c.args.model.now = subst IsLawful c.model.view_is c.model.invariant in
    let s = g.F.Forest.shows c.args.forest.now in
    let w = g.F.Forest.shows c.loop-value.forest in
    let x = g.F.Forest.shows c.weigh_value-in-loop-value.new.forest in
    let here = c.loop-value.invariant in
    let v = c.loop-value.value in
    let size : slice_index c.sizes.result.now c.args.var ≡ slice_index (sizes c.args.model.now) c.args.var = ap (λ (l : List ℕ). slice_index l c.args.var) (c.sizes.ensures.sizes ∙ c.layout.ensures.sizes ∙ c.requires.layout) in
    let below : c.loop-value.value < slice_index (sizes c.args.model.now) c.args.var = subst (λ (n : ℕ). c.loop-value.value < n) size c.loop-value-test.true in
    let same : w.sizes ≡ sizes m = here.made.grows.sizes ∙ c.requires.layout in
    let own = weight-made m a i law c.requires.action c.requires.var w here.made.sound same c.in_ok-table.table here.table v below x (Ok c.in_ok-weight.weight) c.in_ok-weight.ensures.made in
    let has : HasMade s x (table_functions m a i) = has-then (weight-among m a i v below) here.made (has-made own) in
    let samex : x.sizes ≡ sizes m = has.grows.sizes ∙ c.requires.layout in
    let sum = stands-grows own.grows here.sum in
    sum-fits m a i law c.requires.action c.requires.var x own.sound samex v below c.loop-value.sum c.in_ok-weight.weight sum own.ok

pub apply-requires-clause-memo : goal.apply-requires-clause-memo
apply-requires-clause-memo g c = answers-grow c.loop-value.invariant.adds c.in_ok-weight.ensures.made.grows

pub returns-in_err-sum-2-clause-made : goal.returns-in_err-sum-2-clause-made
returns-in_err-sum-2-clause-made g c =
    let m = c.args.model.now in
    let a = c.args.action.now in
    let i = c.args.var in
    let law : IsLawful c.args.model.now = subst IsLawful c.model.view_is c.model.invariant in
    let s = g.F.Forest.shows c.args.forest.now in
    let w = g.F.Forest.shows c.loop-value.forest in
    let x = g.F.Forest.shows c.weigh_value-in-loop-value.new.forest in
    let y = g.F.Forest.shows c.apply.new.forest in
    let here = c.loop-value.invariant in
    let v = c.loop-value.value in
    let size : slice_index c.sizes.result.now c.args.var ≡ slice_index (sizes c.args.model.now) c.args.var = ap (λ (l : List ℕ). slice_index l c.args.var) (c.sizes.ensures.sizes ∙ c.layout.ensures.sizes ∙ c.requires.layout) in
    let below : c.loop-value.value < slice_index (sizes c.args.model.now) c.args.var = subst (λ (n : ℕ). c.loop-value.value < n) size c.loop-value-test.true in
    let same : w.sizes ≡ sizes m = here.made.grows.sizes ∙ c.requires.layout in
    let own = weight-made m a i law c.requires.action c.requires.var w here.made.sound same c.in_ok-table.table here.table v below x (Ok c.in_ok-weight.weight) c.in_ok-weight.ensures.made in
    let has : HasMade s x (table_functions m a i) = has-then (weight-among m a i v below) here.made (has-made own) in
    let samex : x.sizes ≡ sizes m = has.grows.sizes ∙ c.requires.layout in
    let sum = stands-grows own.grows here.sum in
    let e = c.in_err-sum-2.field-0.0 in
    let last = sum-made m a i law c.requires.action c.requires.var x own.sound samex v below c.loop-value.sum c.in_ok-weight.weight sum own.ok y (Err e) c.in_err-sum-2.ensures.made in
    subst (MakesAmong s y (weight_sum m a i (slice_index (sizes m) i)) (table_functions m a i)) (sym (err_is c.from_residual-in_err-sum-2.result e c.from_residual-in_err-sum-2.ensures.1))
    (diagram-failed e (sum-among m a i v below) has last)

pub returns-in_err-sum-2-clause-keeps : goal.returns-in_err-sum-2-clause-keeps
returns-in_err-sum-2-clause-keeps g c = c.apply.ensures.keeps ∙ c.weigh_value-in-loop-value.ensures.keeps ∙ c.loop-value.invariant.keeps

pub loop-value-preserved : goal.loop-value-preserved
loop-value-preserved g c =
    let m = c.args.model.now in
    let a = c.args.action.now in
    let i = c.args.var in
    let law : IsLawful c.args.model.now = subst IsLawful c.model.view_is c.model.invariant in
    let s = g.F.Forest.shows c.args.forest.now in
    let w = g.F.Forest.shows c.loop-value.forest in
    let x = g.F.Forest.shows c.weigh_value-in-loop-value.new.forest in
    let y = g.F.Forest.shows c.apply.new.forest in
    let here = c.loop-value.invariant in
    let v = c.loop-value.value in
    let size : slice_index c.sizes.result.now c.args.var ≡ slice_index (sizes c.args.model.now) c.args.var = ap (λ (l : List ℕ). slice_index l c.args.var) (c.sizes.ensures.sizes ∙ c.layout.ensures.sizes ∙ c.requires.layout) in
    let below : c.loop-value.value < slice_index (sizes c.args.model.now) c.args.var = subst (λ (n : ℕ). c.loop-value.value < n) size c.loop-value-test.true in
    let same : w.sizes ≡ sizes m = here.made.grows.sizes ∙ c.requires.layout in
    let own = weight-made m a i law c.requires.action c.requires.var w here.made.sound same c.in_ok-table.table here.table v below x (Ok c.in_ok-weight.weight) c.in_ok-weight.ensures.made in
    let has : HasMade s x (table_functions m a i) = has-then (weight-among m a i v below) here.made (has-made own) in
    let samex : x.sizes ≡ sizes m = has.grows.sizes ∙ c.requires.layout in
    let sum = stands-grows own.grows here.sum in
    let last = sum-made m a i law c.requires.action c.requires.var x own.sound samex v below c.loop-value.sum c.in_ok-weight.weight sum own.ok y (Ok c.in_ok-sum-2.sum) c.in_ok-sum-2.ensures.made in
    let more : suc v ≡ v + 1 = sym (add-one v) in
    let pushed : StandAfter s x c.args.weights.now.items c.weigh_value-in-loop-value.new.weights.items (map (weight m a i) (numbers_below (suc v))) =
    subst (StandAfter s x c.args.weights.now.items c.weigh_value-in-loop-value.new.weights.items) (weights-more m a i v)
    (after-push c.in_ok-weight.weight (weight m a i v) here.stand own.grows own.ok c.in_ok-weight.ensures.pushed) in
    record {
      within = omega (arith, below);
      made = has-then (sum-among m a i v below) has (has-made last);
      table = stands-grows last.grows (stands-grows own.grows here.table);
      sum = subst (λ (n : ℕ). StandsFor y c.in_ok-sum-2.sum (weight_sum m a i n)) more last.ok;
      stand = subst (λ (n : ℕ). StandAfter s y c.args.weights.now.items c.weigh_value-in-loop-value.new.weights.items (map (weight m a i) (numbers_below n))) more (after-grow pushed last.grows);
      adds = c.apply.ensures.memo;
      keeps = c.apply.ensures.keeps ∙ c.weigh_value-in-loop-value.ensures.keeps ∙ here.keeps;
    }

-- ---- all of them

pub returns-clause-made : goal.returns-clause-made
returns-clause-made g c =
    let m = c.args.model.now in
    let a = c.args.action.now in
    let i = c.args.var in
    let s = g.F.Forest.shows c.args.forest.now in
    let w = g.F.Forest.shows c.loop-value.forest in
    let here = c.loop-value.invariant in
    let size : slice_index c.sizes.result.now c.args.var ≡ slice_index (sizes c.args.model.now) c.args.var = ap (λ (l : List ℕ). slice_index l c.args.var) (c.sizes.ensures.sizes ∙ c.layout.ensures.sizes ∙ c.requires.layout) in
    let all : slice_index (sizes c.args.model.now) c.args.var ≤ c.loop-value.value = subst (λ (n : ℕ). n ≤ c.loop-value.value) size c.loop-value-test.false in
    let end : c.loop-value.value ≡ slice_index (sizes c.args.model.now) c.args.var = let most = c.loop-value.invariant.within in omega arith in
    record {
      sound = here.made.sound;
      grows = here.made.grows;
      ok = subst (λ (n : ℕ). StandsFor w c.loop-value.sum (weight_sum m a i n)) end here.sum;
      makes = here.made.makes;
      fault = tt;
    }

pub returns-clause-stand : goal.returns-clause-stand
returns-clause-stand g c =
    let m = c.args.model.now in
    let a = c.args.action.now in
    let i = c.args.var in
    let s = g.F.Forest.shows c.args.forest.now in
    let w = g.F.Forest.shows c.loop-value.forest in
    let here = c.loop-value.invariant in
    let size : slice_index c.sizes.result.now c.args.var ≡ slice_index (sizes c.args.model.now) c.args.var = ap (λ (l : List ℕ). slice_index l c.args.var) (c.sizes.ensures.sizes ∙ c.layout.ensures.sizes ∙ c.requires.layout) in
    let all : slice_index (sizes c.args.model.now) c.args.var ≤ c.loop-value.value = subst (λ (n : ℕ). n ≤ c.loop-value.value) size c.loop-value-test.false in
    let end : c.loop-value.value ≡ slice_index (sizes c.args.model.now) c.args.var = let most = c.loop-value.invariant.within in omega arith in
    subst (λ (n : ℕ). StandAfter s w c.args.weights.now.items c.loop-value.weights.items (map (weight m a i) (numbers_below n))) end here.stand

pub returns-clause-adds : goal.returns-clause-adds
returns-clause-adds g c = c.loop-value.invariant.adds

pub returns-clause-keeps : goal.returns-clause-keeps
returns-clause-keeps g c = c.loop-value.invariant.keeps
