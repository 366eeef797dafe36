use Rattle.std.proofs.Common.{◌≡◌, ◌*◌, ◌^◌, pos, map, take}
use Rattle.spd_scaled.specs.Scaled.{IsWithin}
use Rattle.spd_model.specs.Trees.{value_of}
use Rattle.spd_model.specs.Numbers.{total}
use Rattle.spd_plain.proofs.validity.total_of.Given as goal

abbrev pub invariant-loop-tree : goal.invariant-loop-tree
invariant-loop-tree l = record {
  sum : l.sum ≡ total (map (λ tree. value_of l.model tree l.s l.s) (take l.tree-index l.trees));
  within : IsWithin (pos (l.tree-index * 10 ^ 30)) l.sum;
}
