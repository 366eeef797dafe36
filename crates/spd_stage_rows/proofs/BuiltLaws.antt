-- What a process was built into fits a forest over its variables, and a forest that grew shows the same parts.
use Rattle.std.proofs.Common.{◌≡◌, ◌<◌, ◌≤◌, ◌∙◌, [], ◌∷◌, map}
use Rattle.spd_model.specs.Process.{Process}
use Rattle.spd_model.specs.States.{sizes}
use Rattle.spd_nodes.specs.Shown.{Shown, Grows}
use Rattle.spd_nodes.proofs.CallerLemmas.{stand-grow}
use Rattle.spd_build.specs.Functions.{all_weights, reward}
use Rattle.spd_backup.specs.declared.thawed.Thawed.{Thawed}
use Rattle.spd_backup.specs.Thawing.{IsThawedOf}

pub parts-grow : (m : Process) (s t : Shown) (x : Thawed) → Grows s t → IsThawedOf m s x → IsThawedOf m t x
parts-grow m s t x g h = record {
  law = h.law;
  valid = h.valid;
  layout = g.sizes ∙ h.layout;
  own = h.own;
  discount = h.discount;
  weights = stand-grow g x.weights.items (all_weights m) h.weights;
  rewards = stand-grow g x.rewards.items (map (reward m) m.actions) h.rewards;
}
