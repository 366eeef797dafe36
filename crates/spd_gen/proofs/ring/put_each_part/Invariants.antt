use Rattle.std.proofs.Common.{flat_map, Ok}
use Rattle.spd_edge.specs.declared.outside.Failed.{Failed}
use Rattle.spd_model.specs.Numbers.{numbers_below}
use Rattle.spd_gen.specs.Ring.{part_text}
use Rattle.spd_gen.specs.inner.Pieces.{shown, Writes}
use Rattle.spd_gen.proofs.ring.put_each_part.Given as goal

abbrev pub invariant-loop-i : goal.invariant-loop-i
invariant-loop-i g l =
    Writes {T = Unit {0}} {E = Failed} (shown g.K.Sink.taken g.K.Sink.faults g.K.Opened.name l.fn.k) (flat_map part_text (numbers_below l.i)) (Ok tt) (shown g.K.Sink.taken g.K.Sink.faults g.K.Opened.name l.k)
