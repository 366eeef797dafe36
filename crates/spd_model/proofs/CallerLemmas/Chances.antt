-- The probabilities of a valid process, as chances of the values of variables one after another.
use Rattle.std.proofs.Common.{◌≡◌, ℕ, suc, ◌<◌, List, length, drop, slice_index, Contains, ℤ, pos, ◌≤ℤ◌, arith}
use Rattle.spd_model.specs.declared.process.Action.{Action}
use Rattle.spd_model.specs.Process.{Process}
use Rattle.spd_model.specs.Numbers.{sum_below}
use Rattle.spd_model.specs.States.{sizes, IsState}
use Rattle.spd_model.specs.Chances.{IsValid, one, probability}
use Rattle.spd_model.proofs.CallerLemmas.StateOrder.{length-sizes}

-- the chance of the value v of variable i, where the variables after i have the values `rest`
abbrev pub Chance : Type 0
Chance = ℕ → ℕ → List ℕ → ℤ

-- chances of variables of these sizes: at least 0, and those of a variable's values sum to one, whatever values the later ones have
pub record AreChances (sizes : List ℕ) (chance : Chance) : Type 0 where
  pub nonnegative : (i v : ℕ) (rest : List ℕ) → i < length sizes → v < slice_index sizes i → IsState (drop (suc i) sizes) rest → pos 0 ≤ℤ chance i v rest
  pub whole : (i : ℕ) (rest : List ℕ) → i < length sizes → IsState (drop (suc i) sizes) rest → sum_below (slice_index sizes i) (λ v. chance i v rest) ≡ one

pub chances_of : (m : Process) → IsValid m → (a : Action) → Contains m.actions a → (s : List ℕ) → IsState (sizes m) s → AreChances (sizes m) (probability m a s)
chances_of m valid a offered s is = record {
  nonnegative = λ i v rest near below after. valid.chances a offered i (omega (arith, length-sizes m)) s rest is after v below;
  whole = λ i rest near after. valid.sums a offered i (omega (arith, length-sizes m)) s rest is after;
}
