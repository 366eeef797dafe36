use Rattle.std.proofs.Common.{rules}
use Rattle.std.proofs.lemmas.Int.{to_z-of_z}
use Rattle.spd_build.proofs.rewards.NetRewardLeafOp.of.Goals as goal

pub returns-in-Num-Num : goal.returns-in-Num-Num
returns-in-Num-Num c = let quotient = c.floor_div.ensures.quotient in search (rules, to_z-of_z)
