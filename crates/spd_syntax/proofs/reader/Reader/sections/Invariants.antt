use Rattle.std.proofs.Common.{◌≤◌, length}
use Rattle.spd_syntax.specs.Files.{AreSections}
use Rattle.spd_syntax.proofs.reader.Reader.sections.Given as goal

abbrev pub invariant-loop-rest : goal.invariant-loop-rest
invariant-loop-rest l =
    record {
      read : AreSections l.self.file.now l.fn.counts l.sections l.seen l.tokens l.rest;
      dds : l.seen.dds ≤ 4096;
      actions : l.seen.actions ≤ 64;
    }

abbrev pub decreases-loop-rest : goal.decreases-loop-rest
decreases-loop-rest l = length l.rest
