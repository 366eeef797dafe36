use Rattle.std.proofs.Common.{List, All, sym, subst}
use Rattle.spd_cons_core.specs.declared.key.Entry.{Entry}
use Rattle.spd_nodes.proofs.CallerLemmas.{grows-then}
use Rattle.spd_bench.specs.Built.{IsKnownLeaf}
use Rattle.spd_bench.proofs.KnownLaws.{leaves-grow, leaves-push, known-leaf}
use Rattle.spd_bench.proofs.entries.children.Goals as goal

pub loop-number-preserved : goal.loop-number-preserved
loop-number-preserved g c = record {
  grows = grows-then c.loop-number.invariant.grows c.leaf.ensures.grows;
  leaves = subst (λ (v : List Entry). All (IsKnownLeaf (g.F.Forest.shows c.leaf.new.self)) v) (sym c.in_ok-push.ensures.items)
      (leaves-push c.loop-number.refs.items c.in_ok-leaf.field-0 (leaves-grow c.loop-number.refs.items c.leaf.ensures.grows c.loop-number.invariant.leaves) (known-leaf c.in_ok-leaf.ensures.ok));
}
