use Rattle.spd_grove_rows.proofs.running.keys_are_read_back.Given as goal

abbrev pub ghosts-four_read_back : goal.ghosts-four_read_back
ghosts-four_read_back g a = record { name = a.blank.name; parts = a.blank.parts }
