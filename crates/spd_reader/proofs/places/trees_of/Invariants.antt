use Rattle.std.proofs.Common.{◌≡◌}
use Rattle.spd_reader.specs.Trees.{trees_of}
use Rattle.spd_reader.proofs.places.trees_of.Given as goal

abbrev pub invariant-loop-place : goal.invariant-loop-place
invariant-loop-place l = l.trees ≡ trees_of l.yielded
