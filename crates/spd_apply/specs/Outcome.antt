-- Operations at each state.
use Rattle.std.specs.Prelude.{◌≡◌, ℕ, List, Bool, true}
use Rattle.spd_cons_core.specs.declared.key.Entry.{Entry}
use Rattle.spd_nodes.specs.declared.leaf.Leaf.{Leaf}
use Rattle.spd_model.specs.States.{IsState}
use Rattle.spd_nodes.specs.States.{Function}
use Rattle.spd_nodes.specs.Shown.{Shown, meaning}

-- the function of an operation's answers at each state
abbrev pub at_each : (Leaf → Leaf → Leaf) → Function → Function → Function
at_each op f g s t = op (f s t) (g s t)

-- the function of a map's answers at each state
abbrev pub map_each : (Leaf → Leaf) → Function → Function
map_each map f s t = map (f s t)

-- at all states the leaves of two entries fit
pub record FitEverywhere (fits : Leaf → Leaf → Bool) (shown : Shown) (f g : Entry) : Type 0 where
  pub at : (s t : List ℕ) → IsState shown.sizes s → IsState shown.sizes t → fits (meaning shown f s t) (meaning shown g s t) ≡ true

-- at all states the leaf of an entry fits
pub record FitsEverywhere (fits : Leaf → Bool) (shown : Shown) (f : Entry) : Type 0 where
  pub at : (s t : List ℕ) → IsState shown.sizes s → IsState shown.sizes t → fits (meaning shown f s t) ≡ true
