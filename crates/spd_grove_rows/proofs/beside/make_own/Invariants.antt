use Rattle.spd_grove_rows.proofs.beside.make_own.Given as goal

abbrev pub ghosts-make_leaves : goal.ghosts-make_leaves
ghosts-make_leaves a = record { name = a.blank.name; parts = a.blank.parts }
