use Rattle.std.proofs.Common.{◌≡◌, flat_map, map, take, find, not, nat_le, unsigned_abs, None}
use Rattle.std.specs.List.{AllZip, enumerate_from}
use Rattle.spd_model.specs.States.{sizes, states}
use Rattle.spd_model.specs.Chances.{Reward, reward_of, reward_limit}
use Rattle.spd_nodes.specs.Made.{HasMade}
use Rattle.spd_nodes.specs.Shown.{StandsFor}
use Rattle.spd_build.specs.Building.{HoldAdds, HoldNets, all_parts}
use Rattle.spd_build.specs.Fitting.{StandForTrees}
use Rattle.spd_build.specs.Functions.{reward, building_functions}
use Rattle.spd_build.proofs.rewards.all_rewards.Given as goal

abbrev pub invariant-loop-number : goal.invariant-loop-number
invariant-loop-number g l = record {
  made : HasMade (g.F.Forest.shows l.fn.forest) (g.F.Forest.shows l.forest) (building_functions l.model);
  gained : StandsFor (g.F.Forest.shows l.forest) l.gained (all_parts l.model l.model.reward);
  dds : StandForTrees (g.F.Forest.shows l.forest) l.model l.model.dds l.dds;
  stand : AllZip (StandsFor (g.F.Forest.shows l.forest)) l.rewards.items (map (reward l.model) (take l.number l.model.actions));
  limits : find (λ (x : Reward). not (nat_le (unsigned_abs x.value) reward_limit))
      (flat_map (λ a. map (λ s. record { action = a.0; state = s; value = reward_of l.model a.1 s }) (states (sizes l.model)))
      (take l.number (enumerate_from 0 l.model.actions))) ≡ None;
  adds : HoldAdds (g.F.Forest.shows l.forest) l.adds;
  nets : HoldNets (g.F.Forest.shows l.forest) l.nets;
  keeps : g.F.Forest.kept l.forest ≡ g.F.Forest.kept l.fn.forest;
}
