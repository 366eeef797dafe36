use Rattle.std.proofs.Common.{◌≡◌, ◌-◌, ◌⊎◌, true}
use Rattle.std.specs.Prelude.{pos}
use Rattle.spd_nodes.specs.declared.leaf.Leaf.TheVariants as L
use Rattle.spd_nodes.specs.Levels.{levels_of, slots}
use Rattle.spd_nodes.specs.Trees.{Ends, IsAt}
use Rattle.spd_nodes.specs.Shown.{IsSound, KnowsAs}
use Rattle.spd_forest_rows.proofs.forests.all_levels.Given as goal

abbrev pub invariant-loop-done : goal.invariant-loop-done
invariant-loop-done g l =
    let s = g.F.Forest.shows l.forest in
    record {
      sound : IsSound s;
      levels : l.levels ≡ levels_of (slots s.sizes);
      one : KnowsAs s l.one (Ends (L.Num (pos 1)));
      knows : s.knows l.rest ≡ true;
      rest : ((s.tree l.rest ≡ Ends (L.Num (pos 0))) × (l.levels - l.done ≡ l.levels)) ⊎ IsAt (l.levels - l.done) (s.tree l.rest);
    }
