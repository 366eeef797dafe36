use Rattle.std.proofs.Common.{◌∙◌, ap}
use Rattle.spd_syntax.specs.declared.refusal.Refusal.TheVariants.{Twice}
use Rattle.spd_syntax.specs.Words.{text_of}
use Rattle.spd_reader.specs.declared.purpose.Purpose.TheVariants.{Diagram}
use Rattle.spd_reader.specs.Faults.{least, when}
use Rattle.spd_reader.specs.Trees.{is_among, tree_faults}
use Rattle.spd_reader.specs.Scopes.{scope_of}
use Rattle.spd_reader.proofs.LeastLaws.{least_two}
use Rattle.spd_reader.proofs.said.Said.dd.Goals as goal

pub returns-clause-notes : goal.returns-clause-notes
returns-clause-notes c =
    let file = c.args.self.now.names.file.now in
    let index = c.args.self.now.names.dd_index in
    let at = c.args.name.from in
    least_two c.args.found.now c.note_if.new.found c.tree.new.found
    (when (is_among index (text_of file c.args.name)) (Twice at)) (tree_faults file (scope_of c.args.self.now.names) Diagram 300 c.args.shape.now)
    (c.note_if.ensures ∙ ap (λ twice. least c.args.found.now (when twice (Twice at))) (c.contains-twice.ensures ∙ ap (is_among index) c.text-text.ensures))
    c.in_ok-tree.ensures.notes
