use Rattle.std.proofs.Common.{◌≤◌, length}
use Rattle.spd_syntax.specs.Files.{Each, AnItem}
use Rattle.spd_syntax.proofs.reader.Reader.items.Given as goal

abbrev pub invariant-items : goal.invariant-items
invariant-items l =
    record {
      read : Each (AnItem l.self.file.now) l.items l.tokens l.rest;
      left : length l.rest ≤ length l.tokens;
    }

abbrev pub decreases-items : goal.decreases-items
decreases-items l = length l.rest
