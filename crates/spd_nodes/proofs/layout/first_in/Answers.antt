use Rattle.std.proofs.Common.{arith}
use Rattle.spd_nodes.proofs.LayoutLaws.{fits-at, level-primed, level-plain}
use Rattle.spd_nodes.proofs.layout.first_in.Goals as goal

pub overflow_add-result : goal.overflow_add-result
overflow_add-result c =
    let fits = fits-at c.args.sizes.now c.requires.layout c.args.var c.requires.var in
    omega arith

pub returns-then-primed-clause-room : goal.returns-then-primed-clause-room
returns-then-primed-clause-room c =
    let fits = fits-at c.args.sizes.now c.requires.layout c.args.var c.requires.var in
    omega arith

pub returns-else-primed-clause-room : goal.returns-else-primed-clause-room
returns-else-primed-clause-room c =
    let fits = fits-at c.args.sizes.now c.requires.layout c.args.var c.requires.var in
    omega arith

pub returns-then-primed-clause-levels : goal.returns-then-primed-clause-levels
returns-then-primed-clause-levels c =
    let fits = fits-at c.args.sizes.now c.requires.layout c.args.var c.requires.var in
    omega arith

pub returns-else-primed-clause-levels : goal.returns-else-primed-clause-levels
returns-else-primed-clause-levels c =
    let fits = fits-at c.args.sizes.now c.requires.layout c.args.var c.requires.var in
    omega arith

pub returns-then-primed-clause-size : goal.returns-then-primed-clause-size
returns-then-primed-clause-size c =
    let fits = fits-at c.args.sizes.now c.requires.layout c.args.var c.requires.var in
    omega arith

pub returns-else-primed-clause-size : goal.returns-else-primed-clause-size
returns-else-primed-clause-size c =
    let fits = fits-at c.args.sizes.now c.requires.layout c.args.var c.requires.var in
    omega arith

pub returns-then-primed-clause-first : goal.returns-then-primed-clause-first
returns-then-primed-clause-first c =
    let at = level-primed c.args.sizes.now c.args.var 0 in
    rw c.if-primed.true (omega (arith, at))

pub returns-else-primed-clause-first : goal.returns-else-primed-clause-first
returns-else-primed-clause-first c =
    let at = level-plain c.args.sizes.now c.args.var 0 c.requires.var in
    rw c.if-primed.false (omega (arith, at))
