use Rattle.std.proofs.Common.{◌≡◌, ◌∙◌, ◌≤◌, ℤ, ◌+ℤ◌, ℕ, List, true, false, sym, subst, get_or, length, to_z, of_z, arith, pos}
use mir.Syntax.{w128}
use Rattle.std.specs.Prelude.{int_le}
use Rattle.std.specs.Int.{int_max}
use Rattle.std.proofs.lemmas.Int.{to_z-of_z}
use Rattle.spd_nodes.specs.declared.leaf.Leaf.{Leaf}
use Rattle.spd_nodes.specs.declared.leaf.Leaf.TheVariants.{Num}
use Rattle.spd_ranges.specs.Merging.{range_at}
use Rattle.spd_ranges.specs.inner.Groups.{begun_by}
use Rattle.spd_ranges.specs.declared.groups.Group.{Group}
use Rattle.spd_ranges.proofs.GroupLaws.{InOrder}
use Rattle.spd_ranges.proofs.SweepLaws.{sweep-first, sweep-takes, sweep-ends, sweep-last, told-ordered}
use Rattle.spd_ranges.proofs.groups.join_pairs.Goals as goal
use Rattle.spd_ranges.proofs.groups.join_pairs.Goals.{then-takes, else-takes+in_ok-push}

pub loop-pair-init : goal.loop-pair-init
loop-pair-init c =
    sweep-first (to_z w128 (of_z w128 c.args.span)) c.in-Some.first.now c.in-Some.rest.now c.args.pairs.now c.new-groups.result.items c.of-group.result c.in-Some.ensures.cases.0 c.new-groups.ensures.items c.of-group.ensures

pub loop-pair-preserved : goal.loop-pair-preserved
loop-pair-preserved c =
    let span : ℤ = to_z w128 (of_z w128 c.args.span) in
    let rest : List Leaf = c.in-Some.rest.now in
    let i : ℕ = c.loop-pair.pair-index in
    let none : Leaf = Num (pos 0) in
    let g : Group = c.loop-pair.group in
    let gs : List Group = c.loop-pair.groups.items in
    let next : c.of-next.result ≡ begun_by (range_at (get_or rest i none)) = c.of-next.ensures in
    elim c.if-takes.branch [
      | then-takes w ↦
          let takes = subst (λ (n : Group). int_le (int_max g.high n.high) (g.low +ℤ span) ≡ true) next (sym c.takes.ensures ∙ w.if-takes.true) in
          rw (w.groups-is, w.group-is, w.joined-group.ensures, next) (sweep-takes span gs g rest i none c.loop-pair-test.true takes ∙ c.loop-pair.invariant)
      | else-takes+in_ok-push w ↦
          let ends = subst (λ (n : Group). int_le (int_max g.high n.high) (g.low +ℤ span) ≡ false) next (sym c.takes.ensures ∙ w.if-takes.false) in
          rw (w.groups-is, w.group-is, w.in_ok-push.ensures.items, next) (sweep-ends span gs g rest i none c.loop-pair-test.true ends ∙ c.loop-pair.invariant)
    ]

pub returns : goal.returns
returns c =
    let far : length c.in-Some.rest.now ≤ c.loop-pair.pair-index = omega arith in
    c.in_ok-push-2.ensures.items
    ∙ sweep-last c.args.span c.loop-pair.groups.items c.loop-pair.group c.in-Some.rest.now c.loop-pair.pair-index (to_z-of_z w128 c.args.span c.ranges.span) far c.args.pairs.now c.loop-pair.invariant

pub invariant_of-result-2 : goal.invariant_of-result-2
invariant_of-result-2 c =
    let far : length c.in-Some.rest.now ≤ c.loop-pair.pair-index = omega arith in
    let is = c.in_ok-push-2.ensures.items
    ∙ sweep-last c.args.span c.loop-pair.groups.items c.loop-pair.group c.in-Some.rest.now c.loop-pair.pair-index (to_z-of_z w128 c.args.span c.ranges.span) far c.args.pairs.now c.loop-pair.invariant in
    record { in_order = subst InOrder (sym is) (told-ordered c.args.span c.args.pairs.now c.requires.ranges c.requires.ordered) }
