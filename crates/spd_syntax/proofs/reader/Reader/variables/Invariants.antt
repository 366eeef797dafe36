use Rattle.std.proofs.Common.{◌≤◌, length}
use Rattle.spd_syntax.specs.Positions.{none_yet}
use Rattle.spd_syntax.specs.Files.{AreVariables}
use Rattle.spd_syntax.proofs.reader.Reader.variables.Given as goal

abbrev pub invariant-loop-inside : goal.invariant-loop-inside
invariant-loop-inside l =
    record {
      read : AreVariables l.self.file.now none_yet l.variables l.counts l.tokens l.rest;
      tests : l.counts.tests ≤ 256;
    }

abbrev pub decreases-loop-inside : goal.decreases-loop-inside
decreases-loop-inside l = length l.rest
