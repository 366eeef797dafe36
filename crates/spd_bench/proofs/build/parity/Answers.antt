use Rattle.std.proofs.Common.{◌≡◌, ◌^◌, ℕ, arith, subst}
use Rattle.spd_bench.specs.Built.{IsCount}
use Rattle.spd_bench.proofs.build.parity.Goals as goal

pub test_first-requires-2-clause-yes : goal.test_first-requires-2-clause-yes
test_first-requires-2-clause-yes g c =
    let e : c.loop-var.var ≡ 1 = omega arith in
    subst (λ (v : ℕ). IsCount (g.F.Forest.shows c.loop-var.forest) (2 ^ 16) v c.loop-var.parity) e c.loop-var.invariant.parity

pub test_first-requires-2-clause-no : goal.test_first-requires-2-clause-no
test_first-requires-2-clause-no g c =
    let e : c.loop-var.var ≡ 1 = omega arith in
    subst (λ (v : ℕ). IsCount (g.F.Forest.shows c.loop-var.forest) (2 ^ 16) v c.loop-var.opposite) e c.loop-var.invariant.opposite
