-- What tests of leaves say of the functions that take them.
use Rattle.std.proofs.Common.{◌≡◌, ℕ, ◌<◌, ◌≤◌, Bool, true, false, List, length, get_or, take, refl, sym, ◌∙◌, ap, subst, IsTrue, true≢false}
use Rattle.std.specs.Prelude.{All}
use Rattle.std.proofs.lemmas.List.{take_all}
use Rattle.std.proofs.lemmas.List.Elements.{All-contains, Contains-get_or}
use Rattle.spd_cons_core.specs.declared.key.Entry.{Entry}
use Rattle.spd_nodes.specs.declared.leaf.Leaf.{Leaf}
use Rattle.spd_nodes.specs.States.{Function}
use Rattle.spd_nodes.specs.Shown.{Shown, meaning}
use Rattle.spd_apply.specs.Leaves.{IsTaken, AreLeavesOf, EachFit}
use Rattle.spd_apply.specs.Outcome.{FitEverywhere, FitsEverywhere}

-- a loop that saw all elements pass, and one that saw one fail
pub all-passed : {X : Type 0} (P : X → Type 0) (xs : List X) (i : ℕ) → length xs ≤ i → All P (take i xs) → (IsTrue true → All P xs) × (All P xs → IsTrue true)
all-passed P xs i h all = (λ _. subst (λ ys. All P ys) (take_all i xs h) all, λ _. refl)

pub one-failed : {X : Type 0} (P : X → Type 0) (xs : List X) (i : ℕ) (d : X) → i < length xs → ¬ P (get_or xs i d) → (IsTrue false → All P xs) × (All P xs → IsTrue false)
one-failed P xs i d h n = (λ e. absurd (true≢false (sym e)), λ all. absurd (n (all i d h)))

pub not-both : {b : Bool} {t : Bool} → t ≡ b → t ≡ false → ¬ (b ≡ true)
not-both e f h = true≢false (sym h ∙ sym e ∙ f)

leaf-taken : (sizes : List ℕ) (f : Function) (leaves : List Leaf) → AreLeavesOf sizes f leaves → (k : ℕ) (d : Leaf) → k < length leaves → IsTaken sizes f (get_or leaves k d)
leaf-taken sizes f leaves h k d q = h.only (get_or leaves k d) (Contains-get_or leaves k d q)

taken-passes : (P : Leaf → Type 0) (sizes : List ℕ) (f : Function) (leaves : List Leaf) → AreLeavesOf sizes f leaves → All P leaves → (a : Leaf) → IsTaken sizes f a → P a
taken-passes P sizes f leaves h all a t = subst P t.value (All-contains P leaves (f t.present t.next) all (h.all t.present t.next t.present_in t.next_in))

-- each two leaves of two lists fit exactly where the functions' leaves do
pub each-fit : (fits : Leaf → Leaf → Bool) (sizes : List ℕ) (f g : Function) (left right : List Leaf) → AreLeavesOf sizes f left → AreLeavesOf sizes g right
    → (All (λ a. All (λ b. fits a b ≡ true) right) left → EachFit fits sizes f g) × (EachFit fits sizes f g → All (λ a. All (λ b. fits a b ≡ true) right) left)
each-fit fits sizes f g left right hf hg = (
  λ all. record { at = λ a b s t. taken-passes (λ b. fits a b ≡ true) sizes g right hg (taken-passes (λ a. All (λ b. fits a b ≡ true) right) sizes f left hf all a s) b t },
  λ each i d p j e q. each.at (get_or left i d) (get_or right j e) (leaf-taken sizes f left hf i d p) (leaf-taken sizes g right hg j e q),
)

-- and then they fit wherever they meet
pub fit-everywhere : (fits : Leaf → Leaf → Bool) (s : Shown) (f g : Entry) → EachFit fits s.sizes (meaning s f) (meaning s g) → FitEverywhere fits s f g
fit-everywhere fits s f g each = record {
  at = λ x y i j. each.at (meaning s f x y) (meaning s g x y)
      (record { present = x; next = y; present_in = i; next_in = j; value = refl })
      (record { present = x; next = y; present_in = i; next_in = j; value = refl });
}

-- a map is defined on a function's leaves exactly where it is at all states
pub fits-everywhere : (fits : Leaf → Bool) (s : Shown) (f : Entry) (leaves : List Leaf) → AreLeavesOf s.sizes (meaning s f) leaves
    → (All (λ a. fits a ≡ true) leaves → FitsEverywhere fits s f) × (FitsEverywhere fits s f → All (λ a. fits a ≡ true) leaves)
fits-everywhere fits s f leaves h = (
  λ all. record { at = λ x y i j. All-contains (λ a. fits a ≡ true) leaves (meaning s f x y) all (h.all x y i j) },
  λ every k d q.
      let t : IsTaken s.sizes (meaning s f) (get_or leaves k d) = leaf-taken s.sizes (meaning s f) leaves h k d q in
      ap fits (sym t.value) ∙ every.at t.present t.next t.present_in t.next_in,
)
