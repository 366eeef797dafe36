use Rattle.spd_weigh.proofs.DiscountLaws.{discount-plans}
use Rattle.spd_weigh.proofs.discounting.DiscountingListRule.plan.Goals as goal

pub returns-in-Some-clause-plan : goal.returns-in-Some-clause-plan
returns-in-Some-clause-plan g c =
    let rule = c.args.self.now in
    let low = rw c.in-Some.is at c.in_ok-sides.ensures.low in
    let yes = rw c.in-Some.is at c.in_ok-sides.ensures.yes in
    let no = rw c.in-Some.is at c.in_ok-sides.ensures.no in
    discount-plans rule.way rule.levels rule.discount (g.F.Forest.shows c.args.forest.now) c.requires.sound c.args.list.now c.requires.met.known c.requires.met.trees c.in-Some.level low
    c.in_ok-sides.sides.yes.items c.in_ok-sides.sides.no.items c.in_ok-sides.ensures.known_yes c.in_ok-sides.ensures.known_no yes no
