use Rattle.std.proofs.Common.{take, Ok}
use Rattle.spd_edge.specs.declared.outside.Failed.{Failed}
use Rattle.spd_model.specs.ResultText.{state_words}
use Rattle.spd_text.specs.inner.Pieces.{shown, spaced, Writes}
use Rattle.spd_text.proofs.result.put_state.Given as goal

abbrev pub invariant-loop-i : goal.invariant-loop-i
invariant-loop-i g l =
    Writes {T = Unit {0}} {E = Failed} (shown g.K.Sink.taken g.K.Sink.faults g.K.Opened.name l.fn.k) l.fn.waiting (spaced (take l.i (state_words l.fn.model l.fn.state))) (Ok tt)
    (shown g.K.Sink.taken g.K.Sink.faults g.K.Opened.name l.k) l.waiting
