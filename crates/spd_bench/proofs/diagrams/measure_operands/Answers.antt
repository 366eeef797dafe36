use Rattle.std.proofs.Common.{◌^◌, sym, subst, lit≤}
use Rattle.spd_nodes.specs.Shown.{Shown}
use Rattle.spd_bench.specs.Built.{IsCount}
use Rattle.spd_bench.proofs.CountLaws.{count-more}
use Rattle.spd_bench.proofs.diagrams.measure_operands.Goals as goal

pub returns-clause-parity : goal.returns-clause-parity
returns-clause-parity g c = subst (λ (v : Shown). IsCount v (2 ^ 20) 0 c.in_ok-right.right) (sym c.measure-2.ensures.same) (count-more (2 ^ 20) (lit≤ tt) c.in_ok-right.ensures.ok)
