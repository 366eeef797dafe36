use Rattle.spd_weigh.proofs.PlanLaws.{known-alone}
use Rattle.spd_weigh.proofs.weighing.WeighingListRule.known.Goals as goal

pub returns-then-is_alone-clause-known : goal.returns-then-is_alone-clause-known
returns-then-is_alone-clause-known g c =
    let rule = c.args.self.now in
    let s = g.F.Forest.shows c.args.forest.now in
    let past = c.is_past.ensures.past c.if-is_past.true in
    let alone = rw c.is_past.ensures.same at (c.is_alone.ensures.alone c.if-is_alone.true) in
    known-alone rule.way rule.levels rule.first rule.end s c.requires.sound c.args.list.now c.requires.met.trees c.in_ok-value.value (c.in_ok-value.ensures.known s c.requires.met.known) past alone
