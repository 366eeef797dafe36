use Rattle.std.proofs.Common.{◌≡◌, [], drop}
use Rattle.spd_reader.specs.Faults.{least}
use Rattle.spd_reader.specs.Models.{value_names, value_faults}
use Rattle.spd_reader.proofs.variables.value_names.Given as goal

abbrev pub invariant-loop-word : goal.invariant-loop-word
invariant-loop-word l =
    record {
      means : value_names l.file l.names (drop l.word-index l.words) ≡ value_names l.file [] l.words;
      notes : least l.found (value_faults l.file l.names (drop l.word-index l.words)) ≡ least l.fn.found (value_faults l.file [] l.words);
    }
