use Rattle.std.proofs.Common.{length, ◌-◌, ◌≡◌, ◌≤◌, take}
use Rattle.spd_edge.specs.Told.{Took}
use Rattle.spd_edge.proofs.whole.write_all_of.Given as goal

abbrev pub invariant-loop-done : goal.invariant-loop-done
invariant-loop-done g l = record {
  within : l.done ≤ length l.bytes;
  took : Took (g.K.Sink.taken l.initial.k) (take l.done l.bytes) (g.K.Sink.taken l.k);
  ok : g.K.Sink.faults l.k ≡ g.K.Sink.faults l.initial.k;
  named : g.K.Opened.name l.k ≡ g.K.Opened.name l.initial.k;
}

abbrev pub decreases-loop-done : goal.decreases-loop-done
decreases-loop-done g l = length l.bytes - l.done
