use Rattle.std.proofs.Common.{◌≡◌, length}
use Rattle.spd_query.specs.Lines.{words_of, with_words}
use Rattle.spd_query.specs.inner.Places.{IsAtWord}
use Rattle.spd_query.proofs.read.take_words.Given as goal

abbrev pub invariant-loop-rest : goal.invariant-loop-rest
invariant-loop-rest l = record {
  words : with_words l.vars l.initial.given (words_of l.line) ≡ with_words l.vars l.given (words_of l.rest);
  at_word : IsAtWord l.rest;
  one_each : length l.given ≡ length l.vars;
}

abbrev pub decreases-loop-rest : goal.decreases-loop-rest
decreases-loop-rest l = length l.rest
