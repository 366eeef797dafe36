use Rattle.std.proofs.Common.{◌∙◌, ap, refl, get_or, arith}
use Rattle.spd_syntax.specs.declared.file.Word.{Word}
use Rattle.spd_syntax.specs.declared.refusal.Refusal.TheVariants.{Twice}
use Rattle.spd_reader.specs.Faults.{least, when}
use Rattle.spd_reader.specs.Trees.{is_among, with_name}
use Rattle.spd_reader.proofs.VariableLaws.{value_means, value_notes, values_noted}
use Rattle.spd_reader.proofs.variables.value_names.Goals as goal

pub loop-word-preserved : goal.loop-word-preserved
loop-word-preserved c =
    let file = c.args.file.now in
    let ws = c.args.words.now in
    let i = c.loop-word.word-index in
    let none : Word = record { from = 0; to = 0 } in
    let w = get_or ws i none in
    let names = c.loop-word.names in
    let text = c.text_of-name.ensures in
    let more = c.in_ok-declare.ensures ∙ ap (with_name names) text in
    record {
      means = value_means file names c.declare.new.self ws i w none c.loop-word-test.true refl more _ c.loop-word.invariant.means;
      notes = value_notes file names c.declare.new.self ws i w none c.loop-word-test.true refl more c.loop-word.found c.note_if.new.found _
          (c.note_if.ensures ∙ ap (λ b. least c.loop-word.found (when b (Twice w.from))) (c.contains-twice.ensures ∙ ap (is_among names) text)) c.loop-word.invariant.notes;
    }

pub returns-clause-notes : goal.returns-clause-notes
returns-clause-notes c = values_noted c.args.file.now c.loop-word.names c.args.words.now c.loop-word.word-index c.loop-word.found _ (omega arith) c.loop-word.invariant.notes
