use Rattle.spd_grove_rows.proofs.running.a_key_has_one_entry.Given as goal

abbrev pub ghosts-made_by_two : goal.ghosts-made_by_two
ghosts-made_by_two g a = record { name = a.blank.name; parts = a.blank.parts }
