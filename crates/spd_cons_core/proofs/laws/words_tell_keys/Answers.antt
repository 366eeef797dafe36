use Rattle.spd_cons_core.proofs.Fives.{five_of_key}
use Rattle.spd_cons_core.proofs.Consequences.{words_tell, same_key_tells}
use Rattle.spd_cons_core.proofs.laws.words_tell_keys.Goals as goal

pub returns-clause-five : goal.returns-clause-five
returns-clause-five c = five_of_key

pub returns-clause-tell : goal.returns-clause-tell
returns-clause-tell c = words_tell

pub returns-clause-same : goal.returns-clause-same
returns-clause-same c = same_key_tells
