use Rattle.std.proofs.Common.{◌+◌, ◌-◌, ◌*◌, ◌≤◌, length}
use Rattle.spd_syntax.specs.Grammar.{HaveBranches}
use Rattle.spd_syntax.proofs.reader.Reader.+nest.Given as goal

abbrev pub decreases-branch : goal.decreases-branch
decreases-branch l = 4 * (301 - l.n)

abbrev pub decreases-choice : goal.decreases-choice
decreases-choice l = 4 * (301 - l.n) + 1

abbrev pub decreases-inside : goal.decreases-inside
decreases-inside l = 4 * (301 - l.n) + 2

abbrev pub decreases-tree : goal.decreases-tree
decreases-tree l = 4 * (301 - l.n) + 3

abbrev pub invariant-choice-loop-inside : goal.invariant-choice-loop-inside
invariant-choice-loop-inside l =
    record {
      read : HaveBranches l.self.file.now l.quantity l.n l.branches l.tokens l.rest;
      left : length l.rest ≤ length l.tokens;
    }

abbrev pub decreases-choice-loop-inside : goal.decreases-choice-loop-inside
decreases-choice-loop-inside l = length l.rest
