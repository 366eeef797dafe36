use Rattle.std.proofs.Common.{◌≡◌, ◌*◌, ◌+◌, take}
use Rattle.spd_nodes.specs.Levels.{levels_of}
use Rattle.spd_nodes.proofs.layout.test_at.Given as goal

abbrev pub invariant-loop-var : goal.invariant-loop-var
invariant-loop-var l = l.rest + 2 * levels_of (take l.var l.sizes) ≡ l.level
