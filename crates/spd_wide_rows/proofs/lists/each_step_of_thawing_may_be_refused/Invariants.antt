use Rattle.spd_wide_rows.proofs.lists.each_step_of_thawing_may_be_refused.Given as goal

abbrev pub ghosts-widest_list : goal.ghosts-widest_list
ghosts-widest_list g a = record { name = a.blank.name; parts = a.blank.parts }
