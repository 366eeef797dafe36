use Rattle.spd_policy.specs.Choosing.{place_leaf}
use Rattle.spd_policy.proofs.PlaceLaws.{goes-like}
use Rattle.spd_policy.proofs.SplitLaws.{AreHalves, goes-to-halves}
use Rattle.spd_policy.proofs.placing.PlacingListRule.plan.Goals as goal

pub returns-in-Some-clause-plan : goal.returns-in-Some-clause-plan
returns-in-Some-clause-plan g c =
    let rule = c.args.self.now in
    let s = g.F.Forest.shows c.args.forest.now in
    let h : AreHalves s c.args.list.now c.in-Some.level.0 c.in_ok-sides.sides.yes.items c.in_ok-sides.sides.no.items = record {
      lowest = rw c.in-Some.is at c.in_ok-sides.ensures.low;
      yes_known = c.in_ok-sides.ensures.known_yes;
      no_known = c.in_ok-sides.ensures.known_no;
      yes_is = rw c.in-Some.is at c.in_ok-sides.ensures.yes;
      no_is = rw c.in-Some.is at c.in_ok-sides.ensures.no;
    } in
    let go = goes-to-halves place_leaf rule.levels s c.requires.sound c.args.list.now c.requires.met.known c.requires.met.trees c.in-Some.level.0 c.in_ok-sides.sides.yes.items c.in_ok-sides.sides.no.items h in
    goes-like place_leaf rule.levels s c.args.list.now c.in-Some.level.0 c.in_ok-sides.sides.yes.items c.in_ok-sides.sides.no.items go c.cut.new.list.items c.cut-in-Some.new.list.items c.cut.ensures c.cut-in-Some.ensures
