use Rattle.spd_diagram_rows.proofs.merging.a_group_ends_where_its_range_passes_the_span.Given as goal

abbrev pub ghosts-merged_alone : goal.ghosts-merged_alone
ghosts-merged_alone g a = record { name = a.blank.name; parts = a.blank.parts }
