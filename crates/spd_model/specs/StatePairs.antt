-- States by pairs of a variable's number and a value's number.
use Rattle.std.specs.Prelude.{ℕ, ◌<◌, ◌≡◌, ◌≢◌, List, length, map, take, All, AllPairs, Contains, slice_index, slice_get, Some}
use Rattle.spd_model.specs.declared.states.StateFault.{StateFault}
use Rattle.spd_model.specs.declared.states.StateFault.TheVariants.{Unknown, Twice, Missing}
use Rattle.spd_model.specs.Process.{Process}
use Rattle.spd_model.specs.States.{sizes, IsState}

-- a pair of one of the variables and one of its values
pub record IsKnown (m : Process) (pair : ℕ × ℕ) : Type 0 where
  pub var : pair.0 < length m.vars
  pub value : pair.1 < slice_index (sizes m) pair.0

-- known pairs, no two of which have one variable
pub record AreFine (m : Process) (pairs : List (ℕ × ℕ)) : Type 0 where
  pub known : All (IsKnown m) pairs
  pub once : AllPairs (λ p q. p.0 ≢ q.0) pairs

-- the variables that have a pair
abbrev pub vars_of : List (ℕ × ℕ) → List ℕ
vars_of pairs = map (λ p. p.0) pairs

-- The pairs describe the state s: they are fine, s has the value of each pair, and each variable has a pair.
pub record Describe (m : Process) (pairs : List (ℕ × ℕ)) (s : List ℕ) : Type 0 where
  pub fine : AreFine m pairs
  pub state : IsState (sizes m) s
  pub values : All (λ p. slice_index s p.0 ≡ p.1) pairs
  pub all : (var : ℕ) → var < length m.vars → Contains (vars_of pairs) var

-- What a fault tells of pairs that describe no state: of the first pair that isn't known or has the variable of an earlier one, or, where
-- they are fine, of the first variable that has no pair.
abbrev pub HasFault : Process → List (ℕ × ℕ) → StateFault → Type 0
HasFault m pairs (Unknown k) =
    AreFine m (take k pairs) × (pair : ℕ × ℕ) × (slice_get pairs k ≡ Some pair) × (IsKnown m pair → ⊥)
HasFault m pairs (Twice k) =
    AreFine m (take k pairs) × (pair : ℕ × ℕ) × (slice_get pairs k ≡ Some pair) × IsKnown m pair × Contains (vars_of (take k pairs)) pair.0
HasFault m pairs (Missing var) =
    AreFine m pairs × (var < length m.vars) × (Contains (vars_of pairs) var → ⊥) × ((v : ℕ) → v < var → Contains (vars_of pairs) v)
