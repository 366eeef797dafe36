use Rattle.std.proofs.Common.{◌≡◌, map, drop}
use Rattle.spd_model.specs.Numbers.{numbers_below}
use Rattle.spd_model.specs.States.{sizes, state_count}
use Rattle.spd_plain.specs.inner.Axes.{axis_of}
use Rattle.spd_plain.proofs.space.all_axes.Given as goal

abbrev pub invariant-loop-var : goal.invariant-loop-var
invariant-loop-var l = record {
  axes : l.axes.items ≡ map (axis_of l.model) (numbers_below l.var);
  after : l.after ≡ state_count (drop l.var (sizes l.model));
}
