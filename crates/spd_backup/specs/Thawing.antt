-- Which process a forest's diagrams stand for.
use Rattle.std.specs.Prelude.{◌≡◌, ℕ, ◌+◌, ◌*◌, List, map, take, drop, sum, ℤ, slice_index, slice_get, Some}
use Rattle.std.specs.List.{AllZip}
use Rattle.spd_cons_core.specs.declared.key.Entry.{Entry}
use Rattle.spd_model.specs.declared.process.Action.{Action}
use Rattle.spd_model.specs.Process.{Process}
use Rattle.spd_model.specs.Lawful.{IsLawful}
use Rattle.spd_model.specs.States.{sizes, IsState}
use Rattle.spd_model.specs.Chances.{IsValid}
use Rattle.spd_nodes.specs.declared.leaf.Leaf.TheVariants.{Num}
use Rattle.spd_nodes.specs.Shown.{Shown, StandsFor, meaning}
use Rattle.spd_backup.specs.declared.thawed.Thawed.{Thawed}
use Rattle.spd_build.specs.Functions.{all_weights, reward}

-- among all weights, those of a variable after an action
abbrev pub weights_in : List ℕ → List Entry → ℕ → ℕ → List Entry
weights_in sizes refs action var = take (slice_index sizes var) (drop (action * sum sizes + sum (take var sizes)) refs)

-- The parts of a valid process as diagrams of a forest over its variables.
pub record IsThawedOf (m : Process) (s : Shown) (x : Thawed) : Type 0 where
  pub law : IsLawful m
  pub valid : IsValid m
  pub layout : s.sizes ≡ sizes m
  pub own : x.sizes.items ≡ sizes m
  pub discount : x.g ≡ m.discount
  pub weights : AllZip (StandsFor s) x.weights.items (all_weights m)
  pub rewards : AllZip (StandsFor s) x.rewards.items (map (reward m) m.actions)

-- the parts of a process that has an action of this number
pub record HasAction (m : Process) (a : Action) (s : Shown) (x : Thawed) (action : ℕ) : Type 0 where
  pub thawed : IsThawedOf m s x
  pub offered : slice_get m.actions action ≡ Some a

-- the parts of some process that has an action of this number
pub record IsThawed (s : Shown) (x : Thawed) (action : ℕ) : Type 0 where
  pub process : Process
  pub chosen : Action
  pub has : HasAction process chosen s x action

-- an entry has a value's number at each state, where the next state is that state
pub record HasNumbers (s : Shown) (r : Entry) (w : List ℕ → ℤ) : Type 0 where
  pub at : (x : List ℕ) → IsState s.sizes x → meaning s r x x ≡ Num (w x)
