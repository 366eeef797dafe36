use Rattle.std.proofs.Common.{◌≡◌, ◌++◌, take}
use Rattle.spd_help.specs.Shown.{shown}
use Rattle.spd_help.proofs.screen.Screen.add.Given as goal

abbrev pub invariant-loop-byte : goal.invariant-loop-byte
invariant-loop-byte l = l.self ≡ l.initial.self ++ shown (take l.byte-index l.text)
