use Rattle.std.proofs.Common.{rules, ◌≤◌, ◌<◌, inl, inr, arith, ◌∙◌}
use Rattle.spd_apply.specs.Halves.{IsNotBefore}
use Rattle.spd_weigh.proofs.EarlyLaws.{each-like}
use Rattle.spd_weigh.proofs.PlanLaws.{before-all, past-slot, plans-slot, plans-test}
use Rattle.spd_weigh.proofs.ShortLaws.{below-short, past-no, past-yes, test-short}
use Rattle.spd_weigh.proofs.weighing.WeighingListRule.plan.Goals as goal

pub at_slot-requires-clause-not_before : goal.at_slot-requires-clause-not_before
at_slot-requires-clause-not_before g c =
    let b : c.args.self.now.first ≤ c.in-Some.level.0 = search (rules, arith) in
    let low = rw c.in-Some.is at c.in_ok-sides.ensures.low in
    rw c.split.ensures.same (before-all (g.F.Forest.shows c.args.forest.now) c.args.self.now.first c.in-Some.level c.args.list.now b low)

pub returns-then-level-self-clause-plan : goal.returns-then-level-self-clause-plan
returns-then-level-self-clause-plan g c =
    let rule = c.args.self.now in
    let b : c.in-Some.level.0 < c.args.self.now.first = search (rules, arith) in
    let low = rw c.in-Some.is at c.in_ok-sides.ensures.low in
    let same = c.split.ensures.same in
    let then-same = c.clear-zero.ensures.same ∙ same in
    let yes = rw c.in-Some.is at c.in_ok-sides.ensures.yes in
    let no = rw c.in-Some.is at c.in_ok-sides.ensures.no in
    let like-yes = rw yes at (rw same at c.clear-zero.ensures.like) in
    let like-no = rw no at (rw then-same at c.clear.ensures.like) in
    plans-test rule.way rule.levels rule.first rule.end (g.F.Forest.shows c.args.forest.now) c.requires.sound c.args.list.now c.requires.met.known c.requires.met.trees c.in-Some.level low (inl b)
    c.clear-zero.new.list.items c.clear.new.list.items (rw same at c.clear-zero.ensures.known) (rw then-same at c.clear.ensures.known) like-yes like-no

pub returns-in_ok-below-in-Some-clause-plan : goal.returns-in_ok-below-in-Some-clause-plan
returns-in_ok-below-in-Some-clause-plan g c =
    let rule = c.args.self.now in
    let s = g.F.Forest.shows c.args.forest.now in
    let a : c.args.self.now.first ≤ c.in-Some.level.0 = search (rules, arith) in
    let b : c.in-Some.level.0 < c.args.self.now.end = search (rules, arith) in
    let low = rw c.in-Some.is at c.in_ok-sides.ensures.low in
    let same = c.at_slot.ensures.same ∙ c.split.ensures.same in
    let taken = rw c.split.ensures.same at c.in_ok-below-in-Some.ensures.trees in
    let like = rw taken at (rw same at c.clear-zero-then-level-self-2.ensures.like) in
    let known = rw same at c.clear-zero-then-level-self-2.ensures.known in
    let zero = rw same at c.clear-zero-then-level-self-2.ensures.zero in
    let plan = plans-slot rule.way rule.levels rule.first rule.end s c.requires.sound c.args.list.now c.requires.met.known c.requires.met.trees c.in-Some.level low a b c.clear-zero-then-level-self-2.new.list.items known like in
    let past = each-like (IsNotBefore rule.end) tt _ _ like (past-slot rule.way rule.levels rule.first rule.end s c.requires.sound c.args.list.now c.requires.met.known c.requires.met.trees c.in-Some.level low a b) in
    below-short rule.way rule.levels rule.first rule.end s c.args.list.now c.clear-zero-then-level-self-2.new.list.items c.shorten.result.items plan past (c.shorten.ensures.shorter s zero) (c.shorten.ensures.known s known)

pub returns-else-level-self-2-clause-plan : goal.returns-else-level-self-2-clause-plan
returns-else-level-self-2-clause-plan g c =
    let rule = c.args.self.now in
    let s = g.F.Forest.shows c.args.forest.now in
    let b : c.args.self.now.end ≤ c.in-Some.level.0 = search (rules, arith) in
    let low = rw c.in-Some.is at c.in_ok-sides.ensures.low in
    let same = c.split.ensures.same in
    let then-same = c.clear-zero-else-level-self-2.ensures.same ∙ same in
    let yes = rw c.in-Some.is at c.in_ok-sides.ensures.yes in
    let no = rw c.in-Some.is at c.in_ok-sides.ensures.no in
    let like-yes = rw yes at (rw same at c.clear-zero-else-level-self-2.ensures.like) in
    let like-no = rw no at (rw then-same at c.clear-zero-else-level-self-2-2.ensures.like) in
    let known-yes = rw same at c.clear-zero-else-level-self-2.ensures.known in
    let known-no = rw then-same at c.clear-zero-else-level-self-2-2.ensures.known in
    let zero = rw then-same at c.clear-zero-else-level-self-2-2.ensures.zero in
    let plan = plans-test rule.way rule.levels rule.first rule.end s c.requires.sound c.args.list.now c.requires.met.known c.requires.met.trees c.in-Some.level low (inr b)
    c.clear-zero-else-level-self-2.new.list.items c.clear-zero-else-level-self-2-2.new.list.items known-yes known-no like-yes like-no in
    let py = each-like (IsNotBefore rule.end) tt _ _ like-yes (past-yes s c.requires.sound rule.end c.in-Some.level c.args.list.now c.requires.met.known low b) in
    let pn = each-like (IsNotBefore rule.end) tt _ _ like-no (past-no s c.requires.sound rule.end c.in-Some.level c.args.list.now c.requires.met.known low b) in
    test-short rule.way rule.levels rule.first rule.end s c.args.list.now c.in-Some.level.0 c.clear-zero-else-level-self-2.new.list.items c.clear-zero-else-level-self-2-2.new.list.items c.shorten-else-level-self-2.result.items c.shorten-else-level-self-2-2.result.items plan py pn
    (c.shorten-else-level-self-2.ensures.shorter s zero) (c.shorten-else-level-self-2-2.ensures.shorter s zero) (c.shorten-else-level-self-2.ensures.known s known-yes) (c.shorten-else-level-self-2-2.ensures.known s known-no)
