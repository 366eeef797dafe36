use Rattle.std.proofs.Common.{◌++◌, ◌∷◌, [], length, take, decimal, Ok}
use Rattle.spd_edge.specs.declared.outside.Failed.{Failed}
use Rattle.spd_model.specs.ResultText.{line, var_name}
use Rattle.spd_frozen.specs.Nodes.{all_shown}
use Rattle.spd_text.specs.inner.Pieces.{shown, leaf_text, Writes}
use Rattle.spd_text.proofs.TextLaws.{lines_from}
use Rattle.spd_text.proofs.nodes.put_nodes.Given as goal

abbrev pub invariant-loop-number : goal.invariant-loop-number
invariant-loop-number g l =
    Writes {T = Unit {0}} {E = Failed} (shown g.K.Sink.taken g.K.Sink.faults g.K.Opened.name l.fn.k) l.fn.waiting
    (line (l.word ∷ decimal (length l.nodes) ∷ []) ++ lines_from (leaf_text l.model) (var_name l.model) 0 (all_shown (take l.number l.nodes))) (Ok tt)
    (shown g.K.Sink.taken g.K.Sink.faults g.K.Opened.name l.k) l.waiting
