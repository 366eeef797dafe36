use Rattle.std.proofs.Common.{◌≡◌, [], drop}
use Rattle.spd_model.specs.Trees.{read_diagrams}
use Rattle.spd_plain.specs.inner.Reach.{latest}
use Rattle.spd_plain.proofs.reach.latest_of_diagrams.Given as goal

abbrev pub invariant-loop-dd : goal.invariant-loop-dd
invariant-loop-dd l = read_diagrams latest l.numbers.items (drop l.dd-index l.dds) ≡ read_diagrams latest [] l.dds
