use Rattle.spd_grove_rows.proofs.running.the_nineteenth_key_is_refused.Given as goal

abbrev pub ghosts-made_until_full : goal.ghosts-made_until_full
ghosts-made_until_full g a = record { name = a.blank.name; parts = a.blank.parts }
