use Rattle.std.proofs.Common.{◌≡◌, ◌≤◌, map, slice_index}
use Rattle.spd_model.specs.Numbers.{numbers_below}
use Rattle.spd_model.specs.States.{sizes}
use Rattle.spd_nodes.specs.Made.{HasMade}
use Rattle.spd_nodes.specs.Shown.{StandsFor}
use Rattle.spd_build.specs.Building.{HoldAdds}
use Rattle.spd_build.specs.Functions.{table_function, table_functions, weight, weight_sum}
use Rattle.spd_build.specs.Tables.{StandAfter}
use Rattle.spd_build.proofs.tables.weigh_values.Given as goal

-- the weights of the values before this one are put in place, and added
abbrev pub invariant-loop-value : goal.invariant-loop-value
invariant-loop-value g l = record {
  within : l.value ≤ slice_index (sizes l.model) l.var;
  made : HasMade (g.F.Forest.shows l.fn.forest) (g.F.Forest.shows l.forest) (table_functions l.model l.action l.var);
  table : StandsFor (g.F.Forest.shows l.forest) l.table (table_function l.model l.action l.var);
  sum : StandsFor (g.F.Forest.shows l.forest) l.sum (weight_sum l.model l.action l.var l.value);
  stand : StandAfter (g.F.Forest.shows l.fn.forest) (g.F.Forest.shows l.forest) l.fn.weights.items l.weights.items (map (weight l.model l.action l.var) (numbers_below l.value));
  adds : HoldAdds (g.F.Forest.shows l.forest) l.adds;
  keeps : g.F.Forest.kept l.forest ≡ g.F.Forest.kept l.fn.forest;
}
