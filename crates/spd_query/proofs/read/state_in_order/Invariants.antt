use Rattle.std.proofs.Common.{◌≡◌, length, replicate, None, All}
use Rattle.spd_query.specs.inner.Places.{Stands}
use Rattle.spd_query.specs.Lines.{words_of, with_words}
use Rattle.spd_query.proofs.GivenLaws.{in_order}
use Rattle.spd_query.proofs.read.state_in_order.Given as goal

abbrev pub invariant-loop-number : goal.invariant-loop-number
invariant-loop-number l = record {
  room : length l.values ≡ 100;
  words : with_words l.vars (replicate (length l.vars) None) (words_of l.line) ≡ with_words l.vars (in_order l.vars l.values l.number) (words_of l.rest);
  stand : All Stands (words_of l.rest) → All Stands (words_of l.line);
}
