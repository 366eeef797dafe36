use Rattle.spd_grove_rows.proofs.beside.+fill_beside+fn-fill_beside-join+arg2.Given as goal

abbrev pub decreases-fill_beside : goal.decreases-fill_beside
decreases-fill_beside g l = l.helpers

abbrev pub decreases-join+arg2 : goal.decreases-join+arg2
decreases-join+arg2 g l = l.fewer
