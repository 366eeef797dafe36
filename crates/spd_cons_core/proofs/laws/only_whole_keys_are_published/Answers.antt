use Rattle.spd_cons_core.proofs.Transitions.{exchanges_whole_key}
use Rattle.spd_cons_core.proofs.laws.only_whole_keys_are_published.Goals as goal

pub returns : goal.returns
returns c = λ m seat b sized sound. exchanges_whole_key m sized sound seat b
