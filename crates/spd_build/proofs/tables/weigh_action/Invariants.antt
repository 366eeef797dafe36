use Rattle.std.proofs.Common.{◌≡◌, length}
use Rattle.spd_model.specs.Numbers.{numbers_below}
use Rattle.spd_build.specs.Building.{HoldAdds}
use Rattle.spd_build.specs.Functions.{table_functions, weights_of}
use Rattle.spd_build.specs.Tables.{WeighsFirst, variable_sums}
use Rattle.spd_build.proofs.tables.weigh_action.Given as goal

-- the variables before this one are weighed
abbrev pub invariant-loop-var : goal.invariant-loop-var
invariant-loop-var g l = record {
  made : WeighsFirst (variable_sums l.model (l.number, l.action)) (table_functions l.model l.action) (weights_of l.model l.action) (numbers_below (length l.model.vars)) l.var (g.F.Forest.shows l.fn.forest) (g.F.Forest.shows l.forest) l.fn.weights.items l.weights.items;
  adds : HoldAdds (g.F.Forest.shows l.forest) l.adds;
  keeps : g.F.Forest.kept l.forest ≡ g.F.Forest.kept l.fn.forest;
}
