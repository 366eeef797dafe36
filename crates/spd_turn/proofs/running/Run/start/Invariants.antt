use Rattle.spd_turn.proofs.running.Run.start.Given as goal

abbrev pub ghosts-make_turn : goal.ghosts-make_turn
ghosts-make_turn g a = record { name = a.blank.name; parts = a.blank.parts }
