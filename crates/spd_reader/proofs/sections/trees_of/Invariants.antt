use Rattle.std.proofs.Common.{◌≡◌, map}
use Rattle.spd_reader.specs.declared.dd.Dd.{Dd}
use Rattle.spd_reader.proofs.sections.trees_of.Given as goal

abbrev pub invariant-loop-dd : goal.invariant-loop-dd
invariant-loop-dd l = l.trees ≡ map (λ (d : Dd). d.tree) l.yielded
