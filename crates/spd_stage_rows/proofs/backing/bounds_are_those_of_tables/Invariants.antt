use Rattle.spd_stage_rows.proofs.backing.bounds_are_those_of_tables.Given as goal

abbrev pub ghosts-check_in_all : goal.ghosts-check_in_all
ghosts-check_in_all a = record { name = a.blank.name; parts = a.blank.parts }
