use Rattle.spd_plain.proofs.Tables.{state_read}
use Rattle.spd_plain.proofs.sweep.policy.Goals as goal

pub best_action-requires-clause-state : goal.best_action-requires-clause-state
best_action-requires-clause-state c = state_read c.requires.values.space_is c.as_slice-states.ensures c.loop-place.place c.loop-place-test.true c.index-states-place.is
