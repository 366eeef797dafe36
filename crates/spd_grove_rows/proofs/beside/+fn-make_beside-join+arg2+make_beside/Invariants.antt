use Rattle.spd_grove_rows.proofs.beside.+fn-make_beside-join+arg2+make_beside.Given as goal

abbrev pub decreases-make_beside : goal.decreases-make_beside
decreases-make_beside g l = l.helpers

abbrev pub decreases-join+arg2 : goal.decreases-join+arg2
decreases-join+arg2 g l = l.fewer
