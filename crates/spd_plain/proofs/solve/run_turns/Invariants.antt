use Rattle.std.proofs.Common.{◌≡◌, ◌≤◌, ◌-◌}
use Rattle.spd_model.specs.Stops.{first_from}
use Rattle.spd_model.specs.Turns.{turn, rule_at}
use Rattle.spd_plain.proofs.solve.run_turns.Given as goal

abbrev pub invariant-loop-value : goal.invariant-loop-value
invariant-loop-value l = record {
  value : l.value.items ≡ turn l.model l.span l.turn;
  stop : first_from (rule_at l.model l.span) l.turn (l.turns - l.turn) ≡ first_from (rule_at l.model l.span) 0 l.turns;
  within : l.turn ≤ l.turns;
}

abbrev pub decreases-loop-value : goal.decreases-loop-value
decreases-loop-value l = l.turns - l.turn
