use Rattle.std.proofs.Common.{◌≡◌, ◌*◌, take}
use Rattle.spd_nodes.specs.Levels.{levels_of}
use Rattle.spd_nodes.proofs.layout.levels_before.Given as goal

abbrev pub invariant-loop-i : goal.invariant-loop-i
invariant-loop-i l = l.before ≡ 2 * levels_of (take l.i l.sizes)
