use Rattle.std.proofs.Common.{◌≡◌, ◌*◌, IfSome, drop}
use Rattle.spd_nodes.specs.Shown.{KnowsAs}
use Rattle.spd_gather.specs.Lists.{trees_of}
use Rattle.spd_weigh.specs.Summed.{IsAlone, zero_tree}
use Rattle.spd_weigh.proofs.weighing.is_alone.Given as goal

abbrev pub invariant-loop-v : goal.invariant-loop-v
invariant-loop-v g l = record {
  same : g.F.Forest.shows l.forest ≡ g.F.Forest.shows l.fn.forest;
  keeps : g.F.Forest.kept l.forest ≡ g.F.Forest.kept l.fn.forest;
  zero : IfSome l.zero (λ z. KnowsAs (g.F.Forest.shows l.fn.forest) z zero_tree);
  alone : IsAlone ((g.F.Forest.shows l.fn.forest).tree l.value) (trees_of (g.F.Forest.shows l.fn.forest) (drop (2 * l.v) l.fn.list)) → IsAlone ((g.F.Forest.shows l.fn.forest).tree l.value) (trees_of (g.F.Forest.shows l.fn.forest) l.fn.list);
}
