use Rattle.std.proofs.Common.{◌≡◌, take, All}
use Rattle.spd_nodes.specs.Refs.{IsReached}
use Rattle.spd_restrict.specs.Primed.{IsPlainRoot}
use Rattle.spd_restrict.proofs.plain.is_plain.Given as goal

abbrev pub invariant-loop-q : goal.invariant-loop-q
invariant-loop-q g l = record {
  same : g.F.Forest.shows l.forest ≡ g.F.Forest.shows l.fn.forest;
  keeps : g.F.Forest.kept l.forest ≡ g.F.Forest.kept l.fn.forest;
  reached : IsReached (g.F.Forest.shows l.fn.forest) l.fn.r l.q-items;
  plain : All (IsPlainRoot (g.F.Forest.shows l.fn.forest)) (take l.q-index l.q-items);
}
