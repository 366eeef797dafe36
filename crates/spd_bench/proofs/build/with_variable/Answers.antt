use Rattle.std.proofs.Common.{◌≡◌, ◌+◌, ◌*◌, ◌^◌, ℕ, arith, subst, lit≤}
use Rattle.spd_bench.specs.Built.{IsCount}
use Rattle.spd_bench.proofs.CountLaws.{count-grows, count-more, count-sum, if-ok}
use Rattle.spd_bench.proofs.build.with_variable.Goals as goal

pub combined-requires-clause-left : goal.combined-requires-clause-left
combined-requires-clause-left g c = count-grows c.weighted.ensures.grows (count-more (2 ^ 20) (omega (arith, c.requires.var)) c.requires.sum)

pub combined-requires-clause-right : goal.combined-requires-clause-right
combined-requires-clause-right g c = count-more (2 ^ 20) (lit≤ tt) c.in_ok-more.ensures.ok

pub returns-clause-ok : goal.returns-clause-ok
returns-clause-ok g c =
    let e : c.args.var * 65536 + 65536 ≡ (c.args.var + 1) * 65536 = omega arith in
    if-ok (λ r k. subst (λ (n : ℕ). IsCount (g.F.Forest.shows c.combined.new.forest) n 0 r) e
    (count-sum (c.args.var * 65536) 65536 c.combined.ensures.grows (count-grows c.weighted.ensures.grows c.requires.sum) c.in_ok-more.ensures.ok k)) c.combined.result c.combined.ensures.ok
