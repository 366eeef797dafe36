use Rattle.std.proofs.Common.{◌+◌}
use Rattle.spd_apply.proofs.CostLaws.{few-steps}
use Rattle.spd_apply.specs.Costs.{unkept_of}
use Rattle.spd_apply.proofs.make.make_pair.Goals as goal

pub returns-clause-steps : goal.returns-clause-steps
returns-clause-steps g c =
    few-steps (g.F.Forest.shows c.args.forest.now) (g.F.Forest.shows c.recall_or_make.new.forest) c.args.f c.args.g c.args.memo.now c.recall_or_make.new.memo c.args.steps.now c.recall_or_make.new.steps (1 + g.D.Descent.more_steps c.args.rule.now) (unkept_of c.recall_or_make.result)
    c.requires.left c.requires.right c.recall_or_make.ensures.before c.recall_or_make.ensures.counts
