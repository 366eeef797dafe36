use Rattle.std.proofs.Common.{arith, ◌∙◌, length-set}
use Rattle.spd_model.proofs.Pairs.{gather_more, first_none}
use Rattle.spd_model.proofs.states.gather.Goals as goal

pub returns-in-None-clause-first : goal.returns-in-None-clause-first
returns-in-None-clause-first c = first_none c.loop-var.values c.args.chosen.now c.loop-var.var c.loop-var-test.true c.loop-var.invariant.so_far c.in-None.is

pub loop-var-preserved : goal.loop-var-preserved
loop-var-preserved c = record {
  room = length-set c.loop-var.values c.loop-var.var c.in-Some.value ∙ c.loop-var.invariant.room;
  so_far = gather_more c.loop-var.values c.args.chosen.now c.loop-var.var c.in-Some.value c.loop-var-test.true (omega (arith, c.loop-var.invariant.room))
      c.loop-var.invariant.so_far c.in-Some.is;
}
