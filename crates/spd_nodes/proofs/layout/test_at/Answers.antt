use Rattle.std.proofs.Common.{arith}
use Rattle.spd_nodes.proofs.LayoutLaws.{levels-more, levels-all, test-primed, test-plain}
use Rattle.spd_nodes.proofs.StateLaws.{levels_of-slots}
use Rattle.spd_nodes.proofs.layout.test_at.Goals as goal

pub returns-then-rest-tests : goal.returns-then-rest-tests
returns-then-rest-tests c = test-primed c.args.sizes.now c.loop-var.var c.args.level c.loop-var.rest c.loop-var-test.true c.loop-var.invariant c.if-rest-tests.true

pub returns-then-rest-tests-2 : goal.returns-then-rest-tests-2
returns-then-rest-tests-2 c = test-plain c.args.sizes.now c.loop-var.var c.args.level c.loop-var.rest c.loop-var-test.true c.loop-var.invariant c.if-rest-tests.false c.if-rest-tests-2.true

pub loop-var-preserved : goal.loop-var-preserved
loop-var-preserved c =
    let more = levels-more c.loop-var.var c.args.sizes.now c.loop-var-test.true in
    omega (arith, c.loop-var.invariant)

pub unreachable-requires : goal.unreachable-requires
unreachable-requires c =
    let all = levels-all c.loop-var.var c.args.sizes.now c.loop-var-test.false in
    omega (arith, c.loop-var.invariant, levels_of-slots c.args.sizes.now)
