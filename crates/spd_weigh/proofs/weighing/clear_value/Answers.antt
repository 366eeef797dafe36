use Rattle.std.proofs.Common.{◌∙◌, ap, sym, true≢false}
use Rattle.spd_weigh.proofs.EarlyLaws.{cleared-other, cleared-zero, like-clear}
use Rattle.spd_weigh.proofs.weighing.clear_value.Goals as goal

pub returns-then-is_that_zero-clause-like : goal.returns-then-is_that_zero-clause-like
returns-then-is_that_zero-clause-like g c ts h =
    like-clear (g.F.Forest.shows c.args.forest.now) ts c.args.list.now.items c.args.v c.index-weight.result.now h c.requires.v (c.is_that_zero.ensures.zero c.if-is_that_zero.true) c.index-weight.ensures

pub returns-then-is_that_zero-clause-cleared : goal.returns-then-is_that_zero-clause-cleared
returns-then-is_that_zero-clause-cleared g c h =
    cleared-zero (g.F.Forest.shows c.args.forest.now) c.args.list.now.items c.args.v c.index-weight.result.now c.requires.v (c.is_that_zero.ensures.zero c.if-is_that_zero.true) h

pub returns-clause-cleared : goal.returns-clause-cleared
returns-clause-cleared g c h =
    let s = g.F.Forest.shows c.args.forest.now in
    cleared-other s c.args.list.now.items c.args.v c.index-weight.result.now c.requires.v
    (λ z. true≢false (sym (c.is_that_zero.ensures.other (ap s.tree c.index-weight.ensures ∙ z)) ∙ c.if-is_that_zero.false)) h
