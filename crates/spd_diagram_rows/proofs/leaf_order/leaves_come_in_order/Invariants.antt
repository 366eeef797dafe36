use Rattle.spd_diagram_rows.proofs.leaf_order.leaves_come_in_order.Given as goal

abbrev pub ghosts-mixed_leaves_twice : goal.ghosts-mixed_leaves_twice
ghosts-mixed_leaves_twice g a = record { name = a.blank.name; parts = a.blank.parts }
