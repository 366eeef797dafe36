use Rattle.std.proofs.Common.{◌≡◌, take}
use Rattle.std.specs.List.{join_with_byte}
use Rattle.spd_model.specs.ResultText.{state_words}
use Rattle.spd_solver.proofs.states.state_text.Given as goal

abbrev pub invariant-loop-i : goal.invariant-loop-i
invariant-loop-i l = l.text.items ≡ join_with_byte 32 (take l.i (state_words l.model l.state))
