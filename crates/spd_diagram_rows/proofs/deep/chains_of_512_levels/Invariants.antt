use Rattle.spd_diagram_rows.proofs.deep.chains_of_512_levels.Given as goal

abbrev pub ghosts-counts_alone : goal.ghosts-counts_alone
ghosts-counts_alone g a = record { name = a.blank.name; parts = a.blank.parts }
