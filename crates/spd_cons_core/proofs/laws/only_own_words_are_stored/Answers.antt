use Rattle.spd_cons_core.proofs.Transitions.{stores_own_spare}
use Rattle.spd_cons_core.proofs.laws.only_own_words_are_stored.Goals as goal

pub returns : goal.returns
returns c = stores_own_spare
