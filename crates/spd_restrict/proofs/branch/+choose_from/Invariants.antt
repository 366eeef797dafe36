use Rattle.std.proofs.Common.{◌-◌, length}
use Rattle.spd_restrict.proofs.branch.+choose_from.Given as goal

abbrev pub decreases-choose_from : goal.decreases-choose_from
decreases-choose_from g l = length l.kids.now - l.value
