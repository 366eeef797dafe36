use Rattle.spd_cons_core.proofs.Consequences.{listed_at_most_once}
use Rattle.spd_cons_core.proofs.laws.lists_are_distinct.Goals as goal

pub returns : goal.returns
returns c = λ m i e sound live. listed_at_most_once m sound i live e
