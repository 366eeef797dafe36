use Rattle.std.proofs.Common.{◌<◌, length, rules, arith, IsTrue}
use Rattle.spd_weigh.specs.declared.way.Way.TheVariants.{Down}
use Rattle.spd_backup.proofs.ExactLaws.{exact-stands}
use Rattle.spd_backup.proofs.KeepingLaws.{last-stands}
use Rattle.spd_backup.proofs.exact.exact_sum.Goals as goal

pub returns-clause-stands : goal.returns-clause-stands
returns-clause-stands g c =
    let s = g.F.Forest.shows c.args.forest.now in
    let room : c.args.var < length c.args.down.now = omega arith in
    let held = c.requires.down.each c.args.var c.index-down-var.result room in
    let kept = last-stands Down c.args.var s c.args.f c.args.weights.now c.in_ok-sum.sum _ held c.in_ok-sum.ensures in
    let yes : IsTrue c.is_exact_sum.result = search rules in
    exact-stands s c.layout.ensures.sound c.args.var c.args.weights.now c.args.f c.in_ok-sum.sum (c.is_exact_sum.ensures.exact yes) kept
