use Rattle.std.proofs.Common.{◌∙◌, length, map, inl, refl, sym, subst, arith}
use Rattle.std.proofs.lemmas.List.Elements.{All-get_or}
use Rattle.spd_model.specs.declared.tree.Tree.{Tree}
use Rattle.spd_model.specs.Lawful.{IsReward}
use Rattle.spd_model.proofs.CallerLemmas.Results.{err_is}
use Rattle.spd_nodes.specs.Shown.{StandsFor, MakesAmong}
use Rattle.spd_nodes.proofs.CallerLemmas.{Among, among-after, among-fails, diagram-agrees, has-made, has-then, has-wider, stand-grow, stands-grows}
use Rattle.spd_apply.proofs.CallerLemmas.{answers-grow}
use Rattle.spd_build.specs.Functions.{tree_function, tree_functions}
use Rattle.spd_build.specs.Building.{all_parts, sum_functions}
use Rattle.spd_build.proofs.BuildingLaws.{among-in, tree-among, more-among}
use Rattle.spd_build.proofs.RewardLaws.{dds-count, dds-first, more-fits, more-agrees}
use Rattle.spd_build.proofs.TableLaws.{fits-all}
use Rattle.spd_build.proofs.rewards.sum_parts.Goals as goal

pub returns-in_err-sum-clause-adds : goal.returns-in_err-sum-clause-adds
returns-in_err-sum-clause-adds g c = answers-grow c.requires.adds c.in_err-sum.ensures.made.grows

pub loop-part-init : goal.loop-part-init
loop-part-init g c = record {
  made = has-wider (among-in (inl refl)) (has-made c.in_ok-sum.ensures.made);
  stands = c.in_ok-sum.ensures.made.ok;
  adds = answers-grow c.requires.adds c.in_ok-sum.ensures.made.grows;
  keeps = c.number.ensures.keeps;
}

-- ---- a part's tree

pub tree_of-requires-clause-named : goal.tree_of-requires-clause-named
tree_of-requires-clause-named g c =
    let count = dds-count (g.F.Forest.shows c.args.forest.now) c.args.model.now c.args.dds.now c.requires.dds in omega (arith, count)

pub tree_of-requires-clause-dds : goal.tree_of-requires-clause-dds
tree_of-requires-clause-dds g c =
    let m = c.args.model.now in
    dds-first (g.F.Forest.shows c.loop-part.forest) m c.args.dds.now
    (stand-grow c.loop-part.invariant.made.grows c.args.dds.now (map (tree_function m) m.dds) c.requires.dds)

pub tree_of-requires-clause-fits : goal.tree_of-requires-clause-fits
tree_of-requires-clause-fits g c =
    let m = c.args.model.now in
    let item = c.part-item.result in
    let own : IsReward m item = subst (IsReward m) (sym c.part-item.is) (All-get_or (IsReward m) c.args.parts.now c.loop-part.part-index item c.loop-part-test.true c.requires.parts.each) in
    let count = dds-count (g.F.Forest.shows c.args.forest.now) m c.args.dds.now c.requires.dds in
    fits-all m (length c.args.dds.now) item (omega (arith, count)) own.form.fits

pub returns-in_err-tree-clause-made : goal.returns-in_err-tree-clause-made
returns-in_err-tree-clause-made g c =
    let m = c.args.model.now in
    let parts = c.args.parts.now in
    let among = subst (λ (u : Tree). Among (tree_functions m u) (sum_functions m parts)) (sym c.part-item.is)
    (tree-among m parts c.loop-part.part-index c.part-item.result c.loop-part-test.true) in
    subst (MakesAmong (g.F.Forest.shows c.args.forest.now) (g.F.Forest.shows c.tree_of.new.forest) (all_parts m parts) (sum_functions m parts))
    (sym (err_is c.from_residual-in_err-tree.result c.in_err-tree.field-0.0 c.from_residual-in_err-tree.ensures.1))
    (among-fails c.in_err-tree.field-0.0 (among-after among c.loop-part.invariant.made c.in_err-tree.ensures.made))

pub returns-in_err-tree-clause-adds : goal.returns-in_err-tree-clause-adds
returns-in_err-tree-clause-adds g c = answers-grow c.loop-part.invariant.adds c.in_err-tree.ensures.made.grows

-- ---- the sum with one part more

pub apply-requires-clause-fit : goal.apply-requires-clause-fit
apply-requires-clause-fit g c =
    let m = c.args.model.now in
    let t = g.F.Forest.shows c.tree_of.new.forest in
    let new = c.in_ok-tree.ensures.made in
    more-fits m c.args.parts.now c.requires.parts c.loop-part.part-index c.part-item.result c.loop-part-test.true t c.loop-part.sum c.in_ok-tree.tree
    (stands-grows new.grows c.loop-part.invariant.stands) (subst (λ (u : Tree). StandsFor t c.in_ok-tree.tree (tree_function m u)) c.part-item.is new.ok)

pub apply-requires-clause-memo : goal.apply-requires-clause-memo
apply-requires-clause-memo g c = answers-grow c.loop-part.invariant.adds c.in_ok-tree.ensures.made.grows

pub returns-in_err-sum-2-clause-made : goal.returns-in_err-sum-2-clause-made
returns-in_err-sum-2-clause-made g c =
    let m = c.args.model.now in
    let parts = c.args.parts.now in
    let i = c.loop-part.part-index in
    let item = c.part-item.result in
    let near = c.loop-part-test.true in
    let t = g.F.Forest.shows c.tree_of.new.forest in
    let here = c.loop-part.invariant in
    let new = c.in_ok-tree.ensures.made in
    let among = subst (λ (u : Tree). Among (tree_functions m u) (sum_functions m parts)) (sym c.part-item.is) (tree-among m parts i item near) in
    let agrees = more-agrees m parts c.requires.parts i item near t c.loop-part.sum c.in_ok-tree.tree (stands-grows new.grows here.stands)
    (subst (λ (u : Tree). StandsFor t c.in_ok-tree.tree (tree_function m u)) c.part-item.is new.ok) in
    subst (MakesAmong (g.F.Forest.shows c.args.forest.now) (g.F.Forest.shows c.apply.new.forest) (all_parts m parts) (sum_functions m parts))
    (sym (err_is c.from_residual-in_err-sum-2.result c.in_err-sum-2.field-0.0 c.from_residual-in_err-sum-2.ensures.1))
    (among-fails c.in_err-sum-2.field-0.0
    (among-after (more-among m parts i item near) (has-then among here.made (has-made new)) (diagram-agrees new.sound agrees c.in_err-sum-2.ensures.made)))

pub loop-part-preserved : goal.loop-part-preserved
loop-part-preserved g c =
    let m = c.args.model.now in
    let parts = c.args.parts.now in
    let i = c.loop-part.part-index in
    let item = c.part-item.result in
    let near = c.loop-part-test.true in
    let t = g.F.Forest.shows c.tree_of.new.forest in
    let here = c.loop-part.invariant in
    let new = c.in_ok-tree.ensures.made in
    let among = subst (λ (u : Tree). Among (tree_functions m u) (sum_functions m parts)) (sym c.part-item.is) (tree-among m parts i item near) in
    let agrees = more-agrees m parts c.requires.parts i item near t c.loop-part.sum c.in_ok-tree.tree (stands-grows new.grows here.stands)
    (subst (λ (u : Tree). StandsFor t c.in_ok-tree.tree (tree_function m u)) c.part-item.is new.ok) in
    let sum = diagram-agrees new.sound agrees c.in_ok-sum-2.ensures.made in
    record {
      made = has-then (more-among m parts i item near) (has-then among here.made (has-made new)) (has-made sum);
      stands = sum.ok;
      adds = c.apply.ensures.memo;
      keeps = c.apply.ensures.keeps ∙ c.tree_of.ensures.keeps ∙ here.keeps;
    }
