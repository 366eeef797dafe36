use Rattle.std.proofs.Common.{◌≡◌, ◌<◌, map, take}
use Rattle.spd_model.specs.Numbers.{greatest}
use Rattle.spd_model.specs.States.{sizes, at}
use Rattle.spd_model.specs.Backup.{low_of, high_of}
use Rattle.spd_plain.specs.inner.Sweeps.{AreLimited}
use Rattle.spd_plain.proofs.backup.best_bounds.Given as goal

abbrev pub invariant-loop-number : goal.invariant-loop-number
invariant-loop-number l = record {
  some : 0 < l.number;
  low : l.best.low ≡ greatest (map (λ a. low_of l.model (at (sizes l.model) l.values) a l.s) (take l.number l.actions));
  high : l.best.high ≡ greatest (map (λ a. high_of l.model (at (sizes l.model) l.values) a l.s) (take l.number l.actions));
  limited : AreLimited l.best;
}
