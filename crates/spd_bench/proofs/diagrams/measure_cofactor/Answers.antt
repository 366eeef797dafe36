use Rattle.std.proofs.Common.{sym, subst}
use Rattle.spd_nodes.specs.Shown.{Shown, Grows}
use Rattle.spd_bench.proofs.diagrams.measure_cofactor.Goals as goal

pub returns : goal.returns
returns g c = record {
  grows = subst (λ (v : Shown). Grows (g.F.Forest.shows c.args.forest.now.forest) v) (sym c.measure.ensures.same) c.cofactor.ensures.made.grows;
}
