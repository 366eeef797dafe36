use Rattle.std.proofs.Common.{◌≡◌, ◌+◌, ◌-◌, ◌≤◌, vec_len}
use Rattle.spd_edge.specs.Told.{Gave}
use Rattle.spd_edge.proofs.whole.read_all.Given as goal

abbrev pub invariant-loop-bytes : goal.invariant-loop-bytes
invariant-loop-bytes g l = record {
  within : vec_len l.bytes ≤ l.limit;
  gave : Gave (g.S.Source.left l.initial.s) l.bytes.items (g.S.Source.left l.s);
  ok : g.S.Source.faults l.s ≡ g.S.Source.faults l.initial.s;
  named : g.S.Opened.name l.s ≡ g.S.Opened.name l.initial.s;
}

abbrev pub decreases-loop-bytes : goal.decreases-loop-bytes
decreases-loop-bytes g l = (l.limit + 1) - vec_len l.bytes
