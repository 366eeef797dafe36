use Rattle.std.proofs.Common.{◌≡◌, ◌*◌, IfSome, length, take}
use Rattle.spd_nodes.specs.Shown.{KnowsAs}
use Rattle.spd_gather.specs.Lists.{trees_of, AreKnown}
use Rattle.spd_weigh.specs.Summed.{IsLike, AreCleared, zero_tree}
use Rattle.spd_weigh.proofs.weighing.clear.Given as goal

abbrev pub invariant-loop-v : goal.invariant-loop-v
invariant-loop-v g l = record {
  same : g.F.Forest.shows l.forest ≡ g.F.Forest.shows l.fn.forest;
  keeps : g.F.Forest.kept l.forest ≡ g.F.Forest.kept l.fn.forest;
  length_is : length l.list.items ≡ length l.fn.list.items;
  zero : IfSome l.zero (λ z. KnowsAs (g.F.Forest.shows l.fn.forest) z zero_tree);
  known : AreKnown (g.F.Forest.shows l.fn.forest) l.list.items;
  like : IsLike (trees_of (g.F.Forest.shows l.fn.forest) l.fn.list.items) (trees_of (g.F.Forest.shows l.fn.forest) l.list.items);
  cleared : AreCleared (trees_of (g.F.Forest.shows l.fn.forest) (take (2 * l.v) l.list.items));
}
