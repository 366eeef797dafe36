use Rattle.std.proofs.Common.{◌≡◌, ◌+◌, ◌*◌, ◌≤◌, ◌++◌, length}
use Rattle.spd_words.specs.Commands.{pairs_of}
use Rattle.spd_words.proofs.words.pairs_of.Given as goal

abbrev pub invariant-loop-left : goal.invariant-loop-left
invariant-loop-left l =
    record {
      told : l.pairs ++ pairs_of l.left ≡ pairs_of l.places;
      room : 2 * length l.pairs + length l.left ≤ 128;
    }

abbrev pub decreases-loop-left : goal.decreases-loop-left
decreases-loop-left l = length l.left
