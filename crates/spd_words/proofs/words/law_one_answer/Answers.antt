use Rattle.spd_words.proofs.CallerLemmas.Grammar.{some_answer, one_command, one_usage, not_both}
use Rattle.spd_words.proofs.words.law_one_answer.Goals as goal

pub returns : goal.returns
returns c = record { some = some_answer; one_command = one_command; one_usage = one_usage; not_both = not_both }
