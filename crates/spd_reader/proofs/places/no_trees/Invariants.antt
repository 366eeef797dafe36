use Rattle.std.proofs.Common.{◌≡◌}
use Rattle.spd_reader.specs.Trees.{no_trees}
use Rattle.spd_reader.proofs.places.no_trees.Given as goal

abbrev pub invariant-loop : goal.invariant-loop
invariant-loop l = l.places.items ≡ no_trees l.counter
