use Rattle.std.proofs.Common.{arith, Err}
use Rattle.spd_nodes.specs.declared.forest.StoreFault.TheVariants as F
use Rattle.spd_nodes.specs.Grove.{shown_of}
use Rattle.spd_turn.proofs.WaveLaws.{few-actions, new-job}
use Rattle.spd_turn.proofs.waves.job_of.Goals as goal

pub overflow_cast-result : goal.overflow_cast-result
overflow_cast-result c = omega (arith, c.requires.action, few-actions c.requires.ready)

pub invariant_of-result : goal.invariant_of-result
invariant_of-result c =
    new-job (shown_of c.args.grove.now) c.args.thawed.now c.args.w c.args.action c.split-own.result c.args.tables (Err F.Memory) c.requires.ready c.split-own.ensures.splits.trees c.requires.action c.requires.tables
