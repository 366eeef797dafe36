use Rattle.spd_bellman.proofs.Bounds.{near_optimal, policy_bound}
use Rattle.spd_bellman.proofs.law_bound.Goals as goal

pub returns-clause-value : goal.returns-clause-value
returns-clause-value c = near_optimal

pub returns-clause-policy : goal.returns-clause-policy
returns-clause-policy c = policy_bound
