use Rattle.std.proofs.Common.{rules}
use Rattle.std.proofs.lemmas.Int.{to_z-of_z}
use Rattle.spd_apply.proofs.rounding.TimesFloorLeafMap.of.Goals as goal

pub returns-in-Num : goal.returns-in-Num
returns-in-Num c = let quotient = c.floor_div.ensures.quotient in search (rules, to_z-of_z)
