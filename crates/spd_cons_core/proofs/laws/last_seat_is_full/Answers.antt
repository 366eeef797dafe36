use Rattle.spd_cons_core.proofs.Consequences.{full_table}
use Rattle.spd_cons_core.proofs.laws.last_seat_is_full.Goals as goal

pub returns : goal.returns
returns c = λ m i sound. full_table m sound i
