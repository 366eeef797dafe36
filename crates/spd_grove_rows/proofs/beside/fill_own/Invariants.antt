use Rattle.spd_grove_rows.proofs.beside.fill_own.Given as goal

abbrev pub ghosts-fill : goal.ghosts-fill
ghosts-fill a = record { name = a.blank.name; parts = a.blank.parts }
