use Rattle.std.proofs.Common.{List}
use Rattle.spd_nodes.specs.declared.leaf.Leaf.{Leaf}
use Rattle.spd_nodes.specs.Shown.{Shown, meaning}
use Rattle.spd_residual.proofs.LeafLaws.{last-is, last-none, last-reads, some-leaf}
use Rattle.spd_residual.proofs.leaves.last_leaf.Goals as goal

pub unreachable-requires : goal.unreachable-requires
unreachable-requires g c =
    let s : Shown = g.F.Forest.shows c.args.forest.now in
    let leaves : List Leaf = c.in_ok-leaves.leaves.items in
    last-none leaves c.deref.result.now c.deref.ensures.value (some-leaf s c.args.r leaves c.layout.ensures.sound c.in_ok-leaves.ensures.ok) c.in-None.ensures.value

pub returns-clause-last : goal.returns-clause-last
returns-clause-last g c =
    let s : Shown = g.F.Forest.shows c.args.forest.now in
    let leaves : List Leaf = c.in_ok-leaves.leaves.items in
    last-is s.sizes (meaning s c.args.r) leaves c.in-Some.leaf.now c.in_ok-leaves.ensures.ok (some-leaf s c.args.r leaves c.layout.ensures.sound c.in_ok-leaves.ensures.ok)
    (last-reads leaves c.deref.result.now c.deref.ensures.value c.in-Some.leaf.now c.in-Some.ensures.value)
