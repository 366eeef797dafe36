use Rattle.spd_stage_rows.proofs.building.parts_are_those_of_the_definitions.Given as goal

abbrev pub ghosts-check_parts : goal.ghosts-check_parts
ghosts-check_parts a = record { name = a.blank.name; parts = a.blank.parts }
