use Rattle.std.proofs.Common.{◌≡◌, ◌<◌, List, map, ◌∙◌, sym, get_or, length, pos, to_z, of_z, FitsSigned, rules}
use Rattle.std.proofs.lemmas.Int.{to_z-of_z}
use mir.Syntax.{w128}
use Rattle.spd_model.specs.Ranges.{in_order, groups_of, value_in}
use Rattle.spd_plain.specs.declared.ranges.Bounds.{Bounds}
use Rattle.spd_plain.specs.inner.Bounds.{range_of}
use Rattle.spd_plain.proofs.LookUp.{exact, search_finds, value_read}
use Rattle.spd_plain.proofs.Rows.{plain_more, table_done}
use Rattle.spd_model.proofs.CallerLemmas.Lists.{map-map}
use Rattle.spd_plain.proofs.ranges.merge_ranges.Goals as goal

pub unwrap-place-requires : goal.unwrap-place-requires
unwrap-place-requires c =
    let none : Bounds = record { low = pos 0; high = pos 0 } in
    let range : Bounds = get_or c.args.ranges.now c.loop-range.range-index none in
    search_finds c.deref-in-loop-range.result.now range c.binary_search.result (rw c.deref-in-loop-range.ensures.value (c.in_ok-distinct.ensures.found c.loop-range.range-index none c.loop-range-test.true))
    (rw c.deref-in-loop-range.ensures.value c.in_ok-distinct.ensures.ordered) c.binary_search.ensures.position

pub loop-range-preserved : goal.loop-range-preserved
loop-range-preserved c =
    let none : Bounds = record { low = pos 0; high = pos 0 } in
    let range : Bounds = get_or c.args.ranges.now c.loop-range.range-index none in
    let ks : List Bounds = c.deref-in-loop-range.result.now in
    let is : map range_of ks ≡ in_order (map range_of c.args.ranges.now) = rw c.deref-in-loop-range.ensures.value c.in_ok-distinct.ensures.items in
    let alike : c.deref.result.now ≡ ks = c.deref.ensures.value ∙ sym c.deref-in-loop-range.ensures.value in
    let within : c.unwrap-place.result < length ks = rw c.unwrap-place.ensures at c.binary_search.ensures.bound in
    let same : get_or ks c.unwrap-place.result range ≡ range = exact (get_or ks c.unwrap-place.result range) range ((rw c.unwrap-place.ensures at c.binary_search.ensures.ok) range) in
    let value = value_read (value_in (groups_of (to_z w128 (of_z w128 c.args.span)) (map range_of ks))) ks c.in_ok-values.values.items c.unwrap-place.result range c.index.result.now (rw alike at c.in_ok-values.ensures) within same c.index.ensures in
    let fits : FitsSigned w128 c.index.result.now = search rules in
    plain_more (λ (r : Bounds). value_in (groups_of (to_z w128 (of_z w128 c.args.span)) (in_order (map range_of c.args.ranges.now))) (range_of r)) c.args.ranges.now c.loop-range.range-index none
    c.loop-range.merged.items _ _ c.loop-range-test.true c.loop-range.invariant (simp to_z-of_z at c.in_ok-push.ensures.items) (rw is at value)

pub returns : goal.returns
returns c =
    let fits : FitsSigned w128 c.args.span = c.ranges.span in
    let all = simp to_z-of_z at c.loop-range.invariant in
    table_done (λ (r : Bounds). value_in (groups_of c.args.span (in_order (map range_of c.args.ranges.now))) (range_of r)) c.args.ranges.now c.loop-range.range-index c.loop-range.merged.items
    c.loop-range-test.false all
    ∙ sym (map-map (value_in (groups_of c.args.span (in_order (map range_of c.args.ranges.now)))) range_of c.args.ranges.now)
