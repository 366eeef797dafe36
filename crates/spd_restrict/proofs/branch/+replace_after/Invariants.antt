use Rattle.spd_restrict.proofs.branch.+replace_after.Given as goal

abbrev pub decreases-replace_after : goal.decreases-replace_after
decreases-replace_after g l = l.before
