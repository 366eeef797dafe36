use Rattle.spd_bellman.proofs.Returns.{joint_nonnegative, joint-sum}
use Rattle.spd_bellman.proofs.law_joint.Goals as goal

pub returns-clause-nonnegative : goal.returns-clause-nonnegative
returns-clause-nonnegative c = λ m valid a offered s t is there. joint_nonnegative m valid a offered s is t there

pub returns-clause-whole : goal.returns-clause-whole
returns-clause-whole c = λ m valid a offered s is. joint-sum m valid a offered s is
