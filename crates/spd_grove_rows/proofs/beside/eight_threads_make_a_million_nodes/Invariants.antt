use Rattle.spd_grove_rows.proofs.beside.eight_threads_make_a_million_nodes.Given as goal

abbrev pub ghosts-fill : goal.ghosts-fill
ghosts-fill g a = record { name = a.blank.name; parts = a.blank.parts }
