use Rattle.spd_bellman.proofs.Policies.{among_courses}
use Rattle.spd_bellman.proofs.law_policy.Goals as goal

pub returns : goal.returns
returns c = among_courses
