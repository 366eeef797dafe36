use Rattle.std.proofs.Common.{◌≡◌, drop}
use Rattle.spd_reader.specs.Faults.{least}
use Rattle.spd_reader.specs.Models.{sections_of, sections_faults, action_names}
use Rattle.spd_reader.specs.Saying.{said_by}
use Rattle.spd_reader.proofs.sections.sections.Given as goal

abbrev pub invariant-loop-section : goal.invariant-loop-section
invariant-loop-section l =
    record {
      file : l.said.names.file.now ≡ l.initial.said.names.file.now;
      indexed : l.said.action_index ≡ action_names l.said.actions;
      means : sections_of l.initial.said.names.file.now (said_by l.said) (drop l.section-index l.sections) ≡ sections_of l.initial.said.names.file.now (said_by l.initial.said) l.sections;
      notes : least l.found (sections_faults l.initial.said.names.file.now (said_by l.said) (drop l.section-index l.sections))
          ≡ least l.fn.found (sections_faults l.initial.said.names.file.now (said_by l.initial.said) l.sections);
    }
