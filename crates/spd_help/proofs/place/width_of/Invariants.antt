use Rattle.std.proofs.Common.{◌≡◌, ◌*◌, ◌≤◌, length, take}
use Rattle.spd_help.specs.Shown.{shown}
use Rattle.spd_help.proofs.place.width_of.Given as goal

abbrev pub invariant-loop-byte : goal.invariant-loop-byte
invariant-loop-byte l = (l.width ≡ length (shown (take l.byte-index l.text))) × (l.width ≤ 4 * l.byte-index)
