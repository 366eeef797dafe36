use Rattle.std.proofs.Common.{◌≡◌, ◌∙◌, ap, arith}
use Rattle.spd_reader.specs.Faults.{least}
use Rattle.spd_reader.specs.Models.{with_section, section_faults, sections_faults}
use Rattle.spd_reader.specs.Scopes.{scope_of}
use Rattle.spd_reader.specs.Saying.{said_by}
use Rattle.spd_reader.proofs.SectionLaws.{begun, section_means, section_notes, sections_noted}
use Rattle.spd_reader.proofs.sections.sections.Goals as goal

pub loop-section-preserved : goal.loop-section-preserved
loop-section-preserved c =
    let file = c.args.names.file.now in
    let said = said_by c.loop-section.said in
    let more = said_by c.section.new.self in
    let b = c.section-item.result in
    let is : more ≡ with_section file said b = c.in_ok-section.ensures.means ∙ ap (λ f. with_section f said b) c.loop-section.invariant.file in
    record {
      file = c.in_ok-section.ensures.kept.file ∙ c.loop-section.invariant.file;
      indexed = c.in_ok-section.ensures.kept.indexed;
      means = section_means file said more c.args.sections.now c.loop-section.section-index b b c.loop-section-test.true c.section-item.is is _ c.loop-section.invariant.means;
      notes = section_notes file said more c.args.sections.now c.loop-section.section-index b b c.loop-section-test.true c.section-item.is is c.loop-section.found c.section.new.found _
          (c.in_ok-section.ensures.notes ∙ ap (λ f. least c.loop-section.found (section_faults f said b)) c.loop-section.invariant.file) c.loop-section.invariant.notes;
    }

pub returns-clause-notes : goal.returns-clause-notes
returns-clause-notes c =
    sections_noted c.args.names.file.now (said_by c.loop-section.said) c.loop-section.found _ c.args.sections.now c.loop-section.section-index (omega arith) c.loop-section.invariant.notes
    ∙ ap (λ actions. least c.args.found.now (sections_faults c.args.names.file.now (begun (scope_of c.args.names) actions) c.args.sections.now)) c.new-2.ensures
