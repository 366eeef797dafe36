use Rattle.std.proofs.Common.{◌≡◌, ◌+ℤ◌, ◌∙◌, FitsSigned, pos, arith, rules, to_z, of_z, length, get_or}
use Rattle.std.specs.Int.{int_max}
use Rattle.std.proofs.lemmas.Int.{ints, clamps, to_z-of_z}
use Rattle.std.proofs.lemmas.List.Elements.{All-get_or}
use mir.Syntax.{w128}
use Rattle.spd_plain.specs.declared.ranges.Bounds.{Bounds}
use Rattle.spd_plain.specs.inner.Bounds.{AreSmallBounds}
use Rattle.spd_plain.proofs.GroupSweep.{swept_joins, swept_begins, swept_ends, swept_init, begun_below}
use Rattle.spd_plain.proofs.ranges.group_values.Goals as goal
use Rattle.spd_plain.proofs.ranges.group_values.Goals.{then-high-group, else-high-group+in_ok-resize}

pub loop-i-init : goal.loop-i-init
loop-i-init c =
    let none = c.in_ok-values.ensures.items in
    let item = c.in-Some.ensures.item in
    record {
      below = rw none (omega arith);
      small = rw item.1 (All-get_or AreSmallBounds c.args.distinct.now 0 c.in-Some.first.now item.3.0 c.requires.small);
      swept = swept_init _ c.in-Some.first.now c.in_ok-values.values.items c.args.distinct.now none item.3.0 item.1 c.requires.ordered;
    }

pub loop-i-preserved : goal.loop-i-preserved
loop-i-preserved c =
    let none : Bounds = record { low = pos 0; high = pos 0 } in
    let range : Bounds = get_or c.args.distinct.now c.loop-i.i none in
    let small : AreSmallBounds range = All-get_or AreSmallBounds c.args.distinct.now c.loop-i.i none c.loop-i-test.true c.requires.small in
    let low : FitsSigned w128 c.loop-i.group.low = search rules in
    let high : FitsSigned w128 c.loop-i.group.high = search rules in
    let top : FitsSigned w128 range.high = search rules in
    let most : to_z w128 (of_z w128 c.max-high.result) ≡ int_max c.loop-i.group.high range.high =
    to_z-of_z w128 c.max-high.result (search rules) ∙ simp to_z-of_z at c.max-high.ensures.value in
    let end : to_z w128 (of_z w128 (to_z w128 (of_z w128 c.loop-i.group.low) +ℤ to_z w128 (of_z w128 c.args.span))) ≡ c.loop-i.group.low +ℤ to_z w128 (of_z w128 c.args.span) = omega (arith, ints) in
    let len : c.loop-i.values.len ≡ length c.loop-i.values.items = c.loop-i.values.ok.0 in
    elim c.if-high-group.branch [
      | then-high-group w ↦ record {
        below = rw w.values-is (omega arith);
        small = rw w.group-is (record { low = c.loop-i.invariant.small.low; high = record { low = omega (arith, ints, clamps); high = omega (arith, ints, clamps) } });
        swept = rw (w.values-is, w.group-is, most)
            (swept_joins _ _ _ _ none _ _ _ c.loop-i-test.true c.loop-i.invariant.below (rw (most, end) at w.if-high-group.true) c.loop-i.invariant.swept);
      }
      | else-high-group+in_ok-resize w ↦
          let middle = to_z-of_z w128 w.middle.result (search rules) ∙ w.middle.ensures in
          record {
            below = rw (w.values-is, w.in_ok-resize.ensures.items) (begun_below c.loop-i.i _ _ c.loop-i.values.items c.loop-i.invariant.below len);
            small = rw w.group-is small;
            swept = rw (w.values-is, w.group-is, w.in_ok-resize.ensures.items, middle)
                (swept_begins _ _ _ c.loop-i.i c.loop-i.values.len none c.loop-i.values.items _ c.args.distinct.now c.loop-i-test.true c.loop-i.invariant.below len (rw (most, end) at w.if-high-group.false) c.loop-i.invariant.swept);
          }
    ]

pub returns : goal.returns
returns c =
    let fits : FitsSigned w128 c.args.span = c.ranges.span in
    let swept = simp to_z-of_z at c.loop-i.invariant.swept in
    let middle = to_z-of_z w128 c.middle-2.result (search rules) ∙ c.middle-2.ensures in
    rw (c.in_ok-resize-2.ensures.items, middle)
    (swept_ends _ _ _ _ c.loop-i.values.len c.loop-i.values.items _ c.args.distinct.now (omega arith) c.loop-i.invariant.below c.loop-i.values.ok.0 swept)
