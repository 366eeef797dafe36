use Rattle.spd_grove_rows.proofs.running.make_in_thread.Given as goal

abbrev pub ghosts-make_thousand : goal.ghosts-make_thousand
ghosts-make_thousand a = record { name = a.blank.name; parts = a.blank.parts }
