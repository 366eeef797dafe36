use Rattle.spd_bellman.proofs.Bounds.{bound_above, bound_below}
use Rattle.spd_bellman.proofs.law_courses.Goals as goal

pub returns-clause-above : goal.returns-clause-above
returns-clause-above c = λ m valid w policy r holds. bound_above m valid w policy r holds

pub returns-clause-below : goal.returns-clause-below
returns-clause-below c = λ m valid w policy r holds. bound_below m valid w policy r holds
