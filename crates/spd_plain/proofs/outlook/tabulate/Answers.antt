use Rattle.spd_plain.proofs.Tables.{state_read}
use Rattle.spd_plain.proofs.outlook.tabulate.Goals as goal

pub outlooks_at-requires-clause-state : goal.outlooks_at-requires-clause-state
outlooks_at-requires-clause-state c = state_read c.requires.space c.as_slice-states.ensures c.loop-s.s-index c.loop-s-test.true c.s-item.is
