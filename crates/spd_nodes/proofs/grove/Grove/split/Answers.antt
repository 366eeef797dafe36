use Rattle.std.proofs.Common.{sym, subst}
use Rattle.spd_cons.specs.Values.{SeatValue}
use Rattle.spd_nodes.specs.Levels.{slots}
use Rattle.spd_nodes.specs.KnownTrees.{AllFitIn}
use Rattle.spd_nodes.proofs.GroveLaws.{sound-shown}
use Rattle.spd_nodes.proofs.grove.Grove.split.Goals as goal

pub returns-clause-sound : goal.returns-clause-sound
returns-clause-sound c =
    sound-shown c.self.inside.layout.now c.split-seat.result c.self.invariant.layout c.facts-2.ensures
    (subst (λ (s : SeatValue). AllFitIn (slots c.self.inside.layout.now) s.mind.knows) (sym c.split-seat.ensures.made) c.self.invariant.fit)
