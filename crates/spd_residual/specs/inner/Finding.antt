-- What diagrams tell of the gaps at each state, on the way to a residual.
use Rattle.std.specs.Prelude.{◌≡◌, ◌⊎◌, ℕ, true, List, pos, ◌-ℤ◌, ◌≤ℤ◌, Result, IfOk}
use Rattle.spd_cons_core.specs.declared.key.Entry.{Entry}
use Rattle.spd_model.specs.States.{IsState}
use Rattle.spd_nodes.specs.declared.leaf.Leaf.{Leaf}
use Rattle.spd_nodes.specs.declared.leaf.Leaf.TheVariants.{Num, Pair, Act}
use Rattle.spd_nodes.specs.declared.forest.StoreFault.{StoreFault}
use Rattle.spd_nodes.specs.Made.{MakesAll}
use Rattle.spd_nodes.specs.Shown.{Shown, IsWhole, StandsFor, meaning}
use Rattle.spd_nodes.specs.States.{Function}
use Rattle.spd_apply.specs.Leaves.{IsTaken, leaf_before}
use Rattle.spd_weigh.specs.Leaves.{number_of}
use Rattle.spd_build.specs.Functions.{numbers}
use Rattle.spd_backup.specs.declared.backing.Bounds.{Bounds}
use Rattle.spd_policy.specs.declared.chosen.Best.{Best}
use Rattle.spd_residual.specs.declared.gaps.GapDiagrams.{GapDiagrams}
use Rattle.spd_residual.specs.Residual.{Gaps, first_upper, greater_gap, residual_functions}

-- a value and the best bounds have these gaps at all states
pub record HaveGaps (g : Gaps) (s : Shown) (w : Entry) (best : Best) : Type 0 where
  pub above : (x y : List ℕ) → IsState s.sizes x → IsState s.sizes y → number_of (meaning s best.high x y) -ℤ number_of (meaning s w x y) ≡ g.above x
  pub below : (x y : List ℕ) → IsState s.sizes x → IsState s.sizes y → number_of (meaning s w x y) -ℤ number_of (meaning s best.low x y) ≡ g.below x

-- the diagrams of the gaps stand for them
pub record AreGaps (g : Gaps) (s : Shown) (d : GapDiagrams) : Type 0 where
  pub above : StandsFor s d.above (numbers (λ x y. g.above x))
  pub below : StandsFor s d.below (numbers (λ x y. g.below x))
  pub greater : StandsFor s d.greater (numbers (λ x y. greater_gap g x))

-- a call that makes them
pub record MakesGaps (g : Gaps) (old new : Shown) (result : Result GapDiagrams StoreFault) : Type 0 where
  pub all : MakesAll old new (residual_functions g) result
  pub ok : IfOk result (AreGaps g new)

-- the actions at each state: the first with the greatest upper bound, and the policy's
pub record HaveActions (g : Gaps) (s : Shown) (bounds : List Bounds) (best : Best) : Type 0 where
  pub highest : (x : List ℕ) → IsState s.sizes x → first_upper s bounds (meaning s best.high x x) x ≡ g.highest x
  pub policy : (x : List ℕ) → IsState s.sizes x → meaning s best.act x x ≡ Act (g.policy x)

-- at each state one of the two gaps is at least 0
pub record HasGap (g : Gaps) (sizes : List ℕ) : Type 0 where
  pub at : (x : List ℕ) → IsState sizes x → pos 0 ≤ℤ greater_gap g x

-- the diagrams in which a residual's place is looked up are known
pub record AreKnownAt (s : Shown) (best : Best) (d : GapDiagrams) : Type 0 where
  pub high : s.knows best.high ≡ true
  pub act : s.knows best.act ≡ true
  pub above : s.knows d.above ≡ true
  pub greater : s.knows d.greater ≡ true
  pub whole : IsWhole s d.greater

-- all that diagrams tell of the gaps of a residual
pub record TellGaps (g : Gaps) (s : Shown) (bounds : List Bounds) (best : Best) (d : GapDiagrams) : Type 0 where
  pub gaps : AreGaps g s d
  pub actions : HaveActions g s bounds best
  pub some : HasGap g s.sizes

-- they tell it of some gaps
pub record TellSomeGaps (s : Shown) (bounds : List Bounds) (best : Best) (d : GapDiagrams) : Type 0 where
  pub gaps : Gaps
  pub tell : TellGaps gaps s bounds best d

-- the number of an action's leaf; a leaf of another kind counts as 0
abbrev pub action_number : Leaf → ℕ
action_number (Num x) = 0
action_number (Pair x y) = 0
action_number (Act a) = a

-- a leaf is the last one that a function takes
pub record IsLastLeaf (sizes : List ℕ) (f : Function) (leaf : Leaf) : Type 0 where
  pub taken : IsTaken sizes f leaf
  pub last : (s t : List ℕ) → IsState sizes s → IsState sizes t → (f s t ≡ leaf) ⊎ (leaf_before (f s t) leaf ≡ true)
