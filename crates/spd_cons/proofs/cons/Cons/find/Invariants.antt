use Rattle.spd_cons.proofs.cons.Cons.find.Given as goal

abbrev pub ghosts-search_on : goal.ghosts-search_on
ghosts-search_on a = record { key = a.search.now.key }
