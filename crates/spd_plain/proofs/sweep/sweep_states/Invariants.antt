use Rattle.std.proofs.Common.{◌≡◌, All, map, fold, take, pos}
use Rattle.std.specs.Int.{int_max}
use Rattle.spd_model.specs.States.{sizes, states, at}
use Rattle.spd_model.proofs.CallerLemmas.Gaps.{gap_at}
use Rattle.spd_plain.specs.inner.Bounds.{range_of}
use Rattle.spd_plain.specs.inner.Sweeps.{AreLimited}
use Rattle.spd_plain.proofs.SweepLaws.{range_at}
use Rattle.spd_plain.proofs.sweep.sweep_states.Given as goal

abbrev pub invariant-loop-place : goal.invariant-loop-place
invariant-loop-place l = record {
  ranges : map range_of l.ranges.items ≡ map (range_at l.model (at (sizes l.model) l.values)) (take l.place (states (sizes l.model)));
  residual : l.residual ≡ fold int_max (pos 0) (map (gap_at l.model (at (sizes l.model) l.values)) (take l.place (states (sizes l.model))));
  limited : All AreLimited l.ranges.items;
}
