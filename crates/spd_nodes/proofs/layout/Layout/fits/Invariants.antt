use Rattle.std.proofs.Common.{◌≡◌, ◌*◌, ◌<◌, ◌≤◌, length, take, All}
use Rattle.spd_nodes.specs.Levels.{levels_of}
use Rattle.spd_nodes.proofs.layout.Layout.fits.Given as goal

abbrev pub invariant-loop-size : goal.invariant-loop-size
invariant-loop-size l = record {
  some : 0 < length l.sizes;
  few : length l.sizes ≤ 100;
  sizes : All (λ d. (0 < d) × (d ≤ 64)) (take l.size-index l.sizes);
  tests : l.tests ≡ levels_of (take l.size-index l.sizes);
  small : l.tests ≤ 63 * l.size-index;
}
