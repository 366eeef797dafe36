use Rattle.std.proofs.Common.{◌∙◌, ap, [], None}
use Rattle.spd_reader.specs.Faults.{least}
use Rattle.spd_reader.specs.Models.{variables_of, variables_faults, sections_faults, nothing_said}
use Rattle.spd_reader.specs.Scopes.{scope_of}
use Rattle.spd_reader.specs.Saying.{before_sections}
use Rattle.spd_reader.proofs.LeastLaws.{least_two}
use Rattle.spd_reader.proofs.reader.names_of.Goals as goal

pub returns-clause-notes : goal.returns-clause-notes
returns-clause-notes c =
    let file = c.args.bytes.now in
    let variables = c.args.file.now.variables in
    let sections = c.args.file.now.sections in
    let mid = c.variables.new.found in
    least_two None mid c.sections.new.found (variables_faults file [] variables) (sections_faults file (nothing_said (variables_of file [] variables)) sections)
    (c.in_ok-names.ensures.notes ∙ ap (λ vs. least None (variables_faults file [] vs)) c.as_slice.ensures)
    (c.in_ok-said.ensures.notes
    ∙ ap (λ f. least mid (sections_faults f (before_sections (scope_of c.in_ok-names.names)) c.as_slice-2.result.now)) c.in_ok-names.ensures.file
    ∙ ap (λ s. least mid (sections_faults file (before_sections s) c.as_slice-2.result.now)) c.in_ok-names.ensures.means
    ∙ ap (λ vs. least mid (sections_faults file (nothing_said (variables_of file [] vs)) c.as_slice-2.result.now)) c.as_slice.ensures
    ∙ ap (λ ss. least mid (sections_faults file (nothing_said (variables_of file [] variables)) ss)) c.as_slice-2.ensures)
