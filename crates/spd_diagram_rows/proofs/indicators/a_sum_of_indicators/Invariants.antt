use Rattle.spd_diagram_rows.proofs.indicators.a_sum_of_indicators.Given as goal

abbrev pub ghosts-indicators_alone : goal.ghosts-indicators_alone
ghosts-indicators_alone g a = record { name = a.blank.name; parts = a.blank.parts }

abbrev pub ghosts-is_third_full : goal.ghosts-is_third_full
ghosts-is_third_full g a = record { name = a.blank.name; parts = a.blank.parts }
