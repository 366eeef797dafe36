use Rattle.std.proofs.Common.{◌+◌, ◌-◌, ◌<◌, ◌≤◌, length}
use Rattle.spd_syntax.specs.Files.{Each, AValue}
use Rattle.spd_syntax.proofs.reader.Reader.values.Given as goal

abbrev pub invariant-loop-word : goal.invariant-loop-word
invariant-loop-word l =
    record {
      read : Each (AValue l.self.file.now) l.values l.tokens l.rest;
      some : 0 < length l.values;
      few : length l.values ≤ 64;
      tests : l.counts.tests + (length l.values - 1) ≤ 256;
      left : length l.rest < length l.tokens;
    }

abbrev pub decreases-loop-word : goal.decreases-loop-word
decreases-loop-word l = length l.rest
