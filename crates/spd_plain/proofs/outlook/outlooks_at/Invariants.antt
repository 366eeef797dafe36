use Rattle.std.proofs.Common.{◌≡◌, map, take}
use Rattle.spd_plain.specs.inner.Outlooks.{outlook_of}
use Rattle.spd_plain.proofs.outlook.outlooks_at.Given as goal

abbrev pub invariant-loop-number : goal.invariant-loop-number
invariant-loop-number l = l.outlooks.items ≡ map (outlook_of l.model l.s) (take l.number l.actions)
