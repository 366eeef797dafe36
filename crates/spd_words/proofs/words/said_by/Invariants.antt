use Rattle.std.proofs.Common.{◌≡◌, drop}
use Rattle.spd_words.specs.Pieces.{pieces_of, pieces_from}
use Rattle.spd_words.specs.Inner.Judging.{judged, nothing_said}
use Rattle.spd_words.proofs.words.said_by.Given as goal

-- what the words from here on come to behind what is said is what all come to
abbrev pub invariant-loop-at : goal.invariant-loop-at
invariant-loop-at l =
    judged l.words l.verb (pieces_from l.expects l.at (drop l.at l.words)) l.said ≡ judged l.words l.verb (pieces_of (drop 1 l.words)) nothing_said
