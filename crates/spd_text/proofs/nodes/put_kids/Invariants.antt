use Rattle.std.proofs.Common.{take, map, decimal, Ok}
use Rattle.spd_edge.specs.declared.outside.Failed.{Failed}
use Rattle.spd_text.specs.inner.Pieces.{shown, spaced, Writes}
use Rattle.spd_text.proofs.nodes.put_kids.Given as goal

abbrev pub invariant-loop-kid : goal.invariant-loop-kid
invariant-loop-kid g l =
    Writes {T = Unit {0}} {E = Failed} (shown g.K.Sink.taken g.K.Sink.faults g.K.Opened.name l.initial.k) l.initial.waiting (spaced (map decimal (take l.kid-index l.kids))) (Ok tt)
    (shown g.K.Sink.taken g.K.Sink.faults g.K.Opened.name l.k) l.waiting
