use Rattle.std.proofs.Common.{◌≡◌, take}
use Rattle.spd_gather.specs.Lists.{trees_of, AreKnown}
use Rattle.spd_weigh.specs.Summed.{taken}
use Rattle.spd_weigh.proofs.weighing.at_slot.Given as goal

abbrev pub invariant-loop-i : goal.invariant-loop-i
invariant-loop-i g l = record {
  same : g.F.Forest.shows l.forest ≡ g.F.Forest.shows l.fn.forest;
  keeps : g.F.Forest.kept l.forest ≡ g.F.Forest.kept l.fn.forest;
  known : AreKnown (g.F.Forest.shows l.fn.forest) l.at.items;
  trees : trees_of (g.F.Forest.shows l.fn.forest) l.at.items ≡ taken l.first l.end 0 (trees_of (g.F.Forest.shows l.fn.forest) (take l.i l.fn.list));
}
