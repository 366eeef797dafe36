-- How many states the first variables have.
use Rattle.std.proofs.Common.{◌≡◌, ◌∙◌, ℕ, zero, suc, ◌<◌, ◌≤◌, true, false, nat_lt, List, [], ◌∷◌, length, take, get_or, slice_get, Some, None, All, sym, arith}
use Rattle.std.proofs.Math.Nat.{mul-le-mul_left}
use Rattle.std.proofs.lemmas.Bool.{cases_lt}
use Rattle.std.proofs.lemmas.Bool.Decides.{nat_tests}
use Rattle.std.proofs.lemmas.List.{get_or_default}
use Rattle.std.proofs.lemmas.List.Elements.{All-tail}
use Rattle.std.proofs.lemmas.Option.{slice_get-get_or}
use Rattle.spd_model.specs.declared.process.Var.{Var}
use Rattle.spd_model.specs.Process.{Process}
use Rattle.spd_model.specs.States.{sizes, state_count}
use Rattle.spd_model.proofs.CallerLemmas.StateOrder.{state_count_some, size_read}
use Rattle.std.proofs.Common.{inl, inr}

pub state_count-take-le : (sizes : List ℕ) (k : ℕ) → All (λ size. 0 < size) sizes → state_count (take k sizes) ≤ state_count sizes
state_count-take-le sizes zero some = state_count_some sizes some
state_count-take-le [] (suc k) some = omega arith
state_count-take-le (size ∷ sizes) (suc k) some = mul-le-mul_left size (state_count-take-le sizes k (All-tail (λ n. 0 < n) size sizes some))

pub size_at : (m : Process) (vars : List Var) (k : ℕ) (d : Var) → vars ≡ m.vars → k < length vars → length (get_or vars k d).values ≡ get_or (sizes m) k 0
size_at m vars k d are near = size_read m vars k (get_or vars k d) are near (get_or_default vars k d (get_or vars k d) near)

pub lt_holds : (x y : ℕ) → x < y → nat_lt x y ≡ true
lt_holds x y h = grind (arith, nat_tests)

pub lt_fails : (x y : ℕ) → y ≤ x → nat_lt x y ≡ false
lt_fails x y h = grind (arith, nat_tests)

-- where a list has nothing, it has ended
pub past_none : {X : Type 0} (xs : List X) (k : ℕ) (d : X) → slice_get xs k ≡ None → length xs ≤ k
past_none xs k d none = elim (cases_lt k (length xs)) [ inl near ↦ absurd (some_none (sym (slice_get-get_or xs k d near) ∙ none)) | inr far ↦ far ]
  where
    some_none : {X : Type 0} {x : X} → Some x ≡ None → ⊥
    some_none h = cc
