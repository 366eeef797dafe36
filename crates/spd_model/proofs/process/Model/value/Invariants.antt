use Rattle.spd_model.proofs.Walks.{Reaches, distance}
use Rattle.spd_model.proofs.process.Model.value.Given as goal

abbrev pub invariant-loop-reached : goal.invariant-loop-reached
invariant-loop-reached l = Reaches l.self l.s l.t l.tree l.reached

abbrev pub decreases-loop-reached : goal.decreases-loop-reached
decreases-loop-reached l = distance l.self l.reached
