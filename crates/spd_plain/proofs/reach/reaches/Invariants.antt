use Rattle.std.proofs.Common.{◌≡◌, map, take}
use Rattle.spd_plain.specs.inner.Reach.{reaches_after}
use Rattle.spd_plain.proofs.reach.reaches.Given as goal

abbrev pub invariant-loop-action : goal.invariant-loop-action
invariant-loop-action l = l.rows.items ≡ map (reaches_after l.model) (take l.action-index l.actions)
