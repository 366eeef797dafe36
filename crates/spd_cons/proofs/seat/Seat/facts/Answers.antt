use Rattle.std.proofs.Common.{subst}
use Rattle.spd_cons.specs.Values.{SeatValue, IsSeatOf}
use Rattle.spd_cons.proofs.Facts.{rest_facts}
use Rattle.spd_cons.proofs.seat.Seat.facts.Goals as goal

pub returns : goal.returns
returns c = subst (λ (v : SeatValue). IsSeatOf v) c.self.view_is (rest_facts _ c.self.invariant)
