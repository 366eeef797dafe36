-- The turn of the tests fits their model.
use Rattle.std.proofs.Common.{◌≡◌, ℕ, zero, suc, ◌<◌, List, [], ◌∷◌, length, pos, All, sym, subst, arith}
use Rattle.std.proofs.lemmas.Int.{ints}
use Rattle.spd_model.specs.Process.{Process}
use Rattle.spd_model.specs.States.{sizes, IsState}
use Rattle.spd_nodes.specs.declared.leaf.Leaf.{Leaf}
use Rattle.spd_nodes.specs.declared.leaf.Leaf.TheVariants.{Num, Act}
use Rattle.spd_frozen.specs.declared.iterate.Iterate.{Iterate}
use Rattle.spd_frozen.specs.Frozen.{entry_at, frozen_of}
use Rattle.spd_frozen.specs.Fits.{FitsSizes, HasLeaves, IsValue, IsChoice, FitsModel}
use Rattle.spd_frozen.proofs.CallerLemmas.{frozen-leaves}

-- what both entries of a table meet
both : (P : Leaf → Type 0) (a b : Leaf) → P a → P b → (s : List ℕ) → IsState (2 ∷ []) s → P (entry_at (2 ∷ []) (a ∷ b ∷ []) s)
both P a b at_a at_b [] h = absurd h
both P a b at_a at_b (zero ∷ []) h = at_a
both P a b at_a at_b (suc zero ∷ []) h = at_b
both P a b at_a at_b (suc (suc v) ∷ []) h = let below = h.0 in absurd (omega arith)
both P a b at_a at_b (v ∷ w ∷ s) h = absurd h.1

positive : All (λ size. 0 < size) (2 ∷ [])
positive zero d h = omega arith
positive (suc k) d h = absurd (omega arith)

leaves-of : (P : Leaf → Type 0) (sz : List ℕ) (a b : Leaf) → sz ≡ 2 ∷ [] → P a → P b → HasLeaves P (frozen_of sz (entry_at sz (a ∷ b ∷ [])))
leaves-of P sz a b two at_a at_b =
    subst (λ (l : List ℕ). HasLeaves P (frozen_of l (entry_at l (a ∷ b ∷ [])))) (sym two) (frozen-leaves (2 ∷ []) P (entry_at (2 ∷ []) (a ∷ b ∷ [])) positive (both P a b at_a at_b))

pub fits : (m : Process) (x : Iterate) → sizes m ≡ 2 ∷ [] → length m.actions ≡ 1 → FitsSizes (sizes m) x.value → FitsSizes (sizes m) x.policy
    → x.value ≡ frozen_of (sizes m) (entry_at (sizes m) (Num (pos 1968750000) ∷ Num (pos 0) ∷ [])) → x.policy ≡ frozen_of (sizes m) (entry_at (sizes m) (Act 0 ∷ Act 0 ∷ []))
    → x.residual.at ≡ 0 ∷ [] → x.residual.action ≡ 0 → FitsModel m x
fits m x two one value policy value_is policy_is at action =
    let first : 0 < length m.actions = omega arith in
    let state : IsState (2 ∷ []) (0 ∷ []) = (omega arith, tt) in
    record {
      value = value;
      policy = policy;
      values = subst (HasLeaves IsValue) (sym value_is)
          (leaves-of IsValue (sizes m) (Num (pos 1968750000)) (Num (pos 0)) two record { low = omega (arith, ints); high = omega (arith, ints) } record { low = omega (arith, ints); high = omega (arith, ints) });
      choices = subst (HasLeaves (IsChoice (length m.actions))) (sym policy_is) (leaves-of (IsChoice (length m.actions)) (sizes m) (Act 0) (Act 0) two first first);
      state = subst (λ (l : List ℕ). IsState l x.residual.at) (sym two) (subst (IsState (2 ∷ [])) (sym at) state);
      action = omega arith;
    }
