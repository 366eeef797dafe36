use Rattle.std.proofs.Common.{◌≡◌, ℕ}
use Rattle.std.specs.List.{enumerate_from}
use Rattle.spd_model.specs.declared.process.Action.{Action}
use Rattle.spd_build.specs.Building.{HoldAdds}
use Rattle.spd_build.specs.Tables.{WeighsFirst, action_functions, action_sums, action_weights}
use Rattle.spd_build.proofs.tables.weigh_actions.Given as goal

-- the variables after the actions before this one are weighed
abbrev pub invariant-loop-number : goal.invariant-loop-number
invariant-loop-number g l = record {
  made : WeighsFirst (action_sums l.model) (λ (p : ℕ × Action). action_functions l.model p.1) (λ (p : ℕ × Action). action_weights l.model p.1) (enumerate_from 0 l.model.actions) l.number (g.F.Forest.shows l.fn.forest) (g.F.Forest.shows l.forest) l.fn.weights.items l.weights.items;
  adds : HoldAdds (g.F.Forest.shows l.forest) l.adds;
  keeps : g.F.Forest.kept l.forest ≡ g.F.Forest.kept l.fn.forest;
}
