use Rattle.std.proofs.Common.{◌∙◌, ap}
use Rattle.std.specs.Prelude.{is_some}
use Rattle.spd_syntax.specs.declared.refusal.Refusal.TheVariants.{Twice}
use Rattle.spd_reader.specs.Faults.{least, when}
use Rattle.spd_reader.specs.Models.{amounts_faults}
use Rattle.spd_reader.specs.Scopes.{scope_of}
use Rattle.spd_reader.proofs.LeastLaws.{least_two}
use Rattle.spd_reader.proofs.said.Said.reward.Goals as goal

pub returns-clause-notes : goal.returns-clause-notes
returns-clause-notes c =
    let at = c.args.word.from in
    least_two c.args.found.now c.note_if.new.found c.amounts.new.found
    (when (is_some c.args.self.now.reward) (Twice at)) (amounts_faults c.args.self.now.names.file.now (scope_of c.args.self.now.names) c.args.parts.now)
    (c.note_if.ensures ∙ ap (λ twice. least c.args.found.now (when twice (Twice at))) c.is_some-twice.ensures)
    c.in_ok-amounts.ensures.notes
