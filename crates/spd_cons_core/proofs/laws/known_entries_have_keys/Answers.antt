use Rattle.spd_cons_core.proofs.Knowledge.{known_key, known_from}
use Rattle.spd_cons_core.proofs.laws.known_entries_have_keys.Goals as goal

pub returns-clause-known : goal.returns-clause-known
returns-clause-known c = known_key

pub returns-clause-back : goal.returns-clause-back
returns-clause-back c = known_from
