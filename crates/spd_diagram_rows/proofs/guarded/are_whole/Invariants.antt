use Rattle.std.proofs.Common.{◌≡◌, take, All}
use Rattle.spd_nodes.specs.Shown.{IsWhole}
use Rattle.spd_diagram_rows.proofs.guarded.are_whole.Given as goal

abbrev pub invariant-loop-kid : goal.invariant-loop-kid
invariant-loop-kid g l = record {
  same : g.F.Forest.shows l.forest ≡ g.F.Forest.shows l.fn.forest;
  whole : All (λ k. IsWhole (g.F.Forest.shows l.fn.forest) k) (take l.kid-index l.kids);
}
