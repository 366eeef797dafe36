use Rattle.std.proofs.Common.{arith, rules, ◌≤◌, length}
use Rattle.spd_policy.proofs.PlaceLaws.{cut-like}
use Rattle.spd_policy.proofs.placing.cut.Goals as goal

pub returns : goal.returns
returns c =
    let first = c.first_same-i.ensures in
    let end : length c.loop-i.list.items ≤ c.loop-i.i = search (rules, arith) in
    cut-like c.args.list.now.items c.loop-i.list.items c.first_same-i.result c.requires first.after c.loop-i.invariant.long c.loop-i.invariant.same
    (λ k d a b. c.loop-i.invariant.rest k d a (omega (arith, b, end)) b) (rw c.as_slice.ensures.value at first.same)
