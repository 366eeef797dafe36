use Rattle.std.proofs.Common.{◌≡◌, ◌++◌, replicate}
use Rattle.spd_help.proofs.screen.Screen.add_blanks.Given as goal

abbrev pub invariant-loop : goal.invariant-loop
invariant-loop l = l.self ≡ l.initial.self ++ replicate l.counter 32
