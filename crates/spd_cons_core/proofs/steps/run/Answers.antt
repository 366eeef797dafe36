use Rattle.std.proofs.Common.{arith}
use Rattle.spd_cons_core.proofs.Runs.{keeps_on, run_more}
use Rattle.spd_cons_core.proofs.steps.run.Goals as goal

pub loop-event-preserved : goal.loop-event-preserved
loop-event-preserved c = record {
  exact = run_more c.args.core c.loop-event.core c.in_ok-core.core c.args.events.now c.loop-event.event-index _ (omega arith) c.loop-event.invariant.exact c.in_ok-core.ensures.exact;
  keeps = keeps_on c.args.core c.loop-event.core c.in_ok-core.core c.loop-event.invariant.keeps c.in_ok-core.ensures.keeps;
}
