use Rattle.spd_cons_core.proofs.Consequences.{known_keys, known_entries}
use Rattle.spd_cons_core.proofs.laws.seats_agree.Goals as goal

pub returns-clause-keys : goal.returns-clause-keys
returns-clause-keys c = λ m i j k other sound. known_keys m sound i j k other

pub returns-clause-entries : goal.returns-clause-entries
returns-clause-entries c = λ m i j k other sound. known_entries m sound i j k other
