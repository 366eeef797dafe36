use Rattle.spd_wide_rows.proofs.lists.check_rooms.Given as goal

abbrev pub ghosts-thaws_with : goal.ghosts-thaws_with
ghosts-thaws_with a = record { name = a.blank.name; parts = a.blank.parts }
