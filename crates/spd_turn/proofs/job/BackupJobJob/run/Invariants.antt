use Rattle.spd_turn.proofs.job.BackupJobJob.run.Given as goal

abbrev pub ghosts-back_up : goal.ghosts-back_up
ghosts-back_up a = record { name = a.blank.name; parts = a.blank.parts }
