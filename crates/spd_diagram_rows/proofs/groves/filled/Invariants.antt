use Rattle.spd_diagram_rows.proofs.groves.filled.Given as goal

abbrev pub ghosts-nodes : goal.ghosts-nodes
ghosts-nodes a = record { name = a.blank.name; parts = a.blank.parts }
