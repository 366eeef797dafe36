use Rattle.std.proofs.Common.{◌≡◌, map, take}
use Rattle.spd_plain.specs.inner.Outlooks.{outlooks_at}
use Rattle.spd_plain.proofs.outlook.tabulate.Given as goal

abbrev pub invariant-loop-s : goal.invariant-loop-s
invariant-loop-s l = l.rows.items ≡ map (outlooks_at l.model) (take l.s-index l.states)
