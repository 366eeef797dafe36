use Rattle.std.proofs.Common.{◌<◌, length}
use Rattle.spd_syntax.specs.declared.file.Quantity.TheVariants.{Reward}
use Rattle.spd_syntax.specs.Grammar.{IsTree}
use Rattle.spd_syntax.specs.Files.{Each}
use Rattle.spd_syntax.proofs.reader.Reader.trees.Given as goal

abbrev pub invariant-loop-inside : goal.invariant-loop-inside
invariant-loop-inside l =
    record {
      read : Each (IsTree l.self.file.now Reward 0) l.trees l.tokens l.rest;
      some : 0 < length l.trees;
      left : length l.rest < length l.tokens;
    }

abbrev pub decreases-loop-inside : goal.decreases-loop-inside
decreases-loop-inside l = length l.rest
