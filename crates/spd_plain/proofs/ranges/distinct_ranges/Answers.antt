use Rattle.std.proofs.Common.{◌≡◌, All, IfOk, map, ap, ◌∙◌, sym, subst, true, List, Contains}
use Rattle.std.specs.BTreeSet.{contains}
use Rattle.std.proofs.lemmas.Iterator.{items_from_collect}
use Rattle.std.proofs.lemmas.Iterator.Consumers.{YieldsList-from_copied, YieldsList-from_rest}
use Rattle.std.proofs.lemmas.List.{take_all}
use Rattle.std.proofs.lemmas.List.Elements.{All-get_or, All-more, All-weaker}
use Rattle.std.proofs.lemmas.Map.Views.{All-insert_key}
use Rattle.std.proofs.lemmas.Result.{IfOk-weaker}
use Rattle.spd_model.specs.Ranges.{in_order}
use Rattle.spd_plain.specs.inner.Bounds.{range_of, bounds_cmp, AreSmallBounds}
use Rattle.spd_plain.specs.declared.ranges.Bounds.{Bounds}
use Rattle.spd_plain.proofs.LookUp.{set_contains, set_more}
use Rattle.spd_plain.proofs.RangeOrder.{map-insert_key, in_order_more}
use Rattle.spd_plain.proofs.ranges.distinct_ranges.Goals as goal

pub loop-range-preserved : goal.loop-range-preserved
loop-range-preserved c = record {
  items =
      ap (map range_of) c.in_ok-insert.ensures.keys ∙ map-insert_key c.loop-range.distinct.keys _
      ∙ in_order_more _ _ c.loop-range.range-index _ c.loop-range.invariant.items c.loop-range-test.true;
  found = All-more (λ r. contains bounds_cmp c.insert.new.self r ≡ true) c.args.ranges.now c.loop-range.range-index _ c.loop-range-test.true
      (All-weaker (λ r. contains bounds_cmp c.loop-range.distinct r ≡ true) (λ r. contains bounds_cmp c.insert.new.self r ≡ true)
      (λ r. set_more c.loop-range.distinct c.insert.new.self _ r c.in_ok-insert.ensures.updates) _ c.loop-range.invariant.found) c.in_ok-insert.ensures.updates.1;
  small = λ h. subst (All AreSmallBounds) (sym c.in_ok-insert.ensures.keys)
      (All-insert_key bounds_cmp _ AreSmallBounds _ (c.loop-range.invariant.small h) (All-get_or AreSmallBounds _ _ _ c.loop-range-test.true h));
}

-- the keys of the set
collected : (c : goal.After-drop-distinct-2) → IfOk c.collect.result (λ v. v.items ≡ c.loop-range.distinct.keys)
collected c =
    items_from_collect _ c.collect.ensures.ran
    (YieldsList-from_copied (YieldsList-from_rest c.loop-range.distinct.keys (c.copied.ensures.source ∙ c.iter.ensures.rest)))

pub returns-clause-items : goal.returns-clause-items
returns-clause-items c =
    let all = take_all c.loop-range.range-index c.args.ranges.now c.loop-range-test.false in
    let is = c.loop-range.invariant.items ∙ ap (λ xs. in_order (map range_of xs)) all in
    IfOk-weaker c.collect.result _ _ (λ v e. ap (map range_of) e ∙ is) (collected c)

pub returns-clause-found : goal.returns-clause-found
returns-clause-found c =
    let all = take_all c.loop-range.range-index c.args.ranges.now c.loop-range-test.false in
    let found = subst (All (λ r. contains bounds_cmp c.loop-range.distinct r ≡ true)) all c.loop-range.invariant.found in
    IfOk-weaker c.collect.result _ _
    (λ v e. subst (λ (ks : List Bounds). All (Contains ks) c.args.ranges.now) (sym e)
    (All-weaker (λ r. contains bounds_cmp c.loop-range.distinct r ≡ true) (Contains c.loop-range.distinct.keys) (set_contains c.loop-range.distinct) c.args.ranges.now found)) (collected c)
