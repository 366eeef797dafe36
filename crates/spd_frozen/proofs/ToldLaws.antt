-- Diagrams with other leaves: where a change of leaves keeps what is equal, it keeps the list of nodes.
use Rattle.std.proofs.Common.{◌≡◌, ℕ, zero, suc, Bool, ◌==◌, List, [], ◌∷◌, map, get_or, refl, ap, sym, ◌∙◌, pos, ℤ}
use Rattle.std.specs.Ordering.{int_eq}
use Rattle.std.proofs.lemmas.Simd.{map-map}
use Rattle.spd_model.specs.Numbers.{numbers_below}
use Rattle.spd_model.specs.Reduced.{Node, reduced, reduced_from, listed, choice_of}
use Rattle.spd_model.specs.States.{rank, at, table_of, IsState}
use Rattle.spd_model.proofs.CallerLemmas.StateOrder.{get_or-table_of, get_or-states, rank_below}
use Rattle.spd_nodes.specs.Trees.{leaf_eq}
use Rattle.spd_nodes.specs.declared.leaf.Leaf.{Leaf}
use Rattle.spd_nodes.specs.declared.leaf.Leaf.TheVariants.{Num, Act}
use Rattle.spd_frozen.specs.Frozen.{frozen_of, entry_at}
use Rattle.spd_frozen.specs.Told.{with_leaf, number_of, action_of}
use Rattle.spd_frozen.proofs.MovedLaws.{changed, moved, map-same, choice-changed, listed-changed}
use Rattle.spd_model.proofs.CallerLemmas.Diagrams.{reduced-agree}

-- a variable that stays
abbrev stays : ℕ → ℕ
stays v = v

module _ {X Y : Type 0} (same : X → X → Bool) (same' : Y → Y → Bool) (change : X → Y) (keeps : (x y : X) → same' (change x) (change y) ≡ same x y) where
  reduced-changed : (var : ℕ) (sizes : List ℕ) (f : List ℕ → X) → reduced_from same' var sizes (λ s. change (f s)) ≡ changed change stays (reduced_from same var sizes f)
  reduced-changed var [] f = refl
  reduced-changed var (size ∷ sizes) f =
      ap (choice_of same' var)
      (map-same (λ v. reduced_from same' (suc var) sizes (λ s. change (f (v ∷ s)))) (λ v. changed change stays (reduced_from same (suc var) sizes (λ s. f (v ∷ s))))
      (λ v. reduced-changed (suc var) sizes (λ s. f (v ∷ s))) (numbers_below size)
      ∙ sym (map-map (changed change stays) (λ v. reduced_from same (suc var) sizes (λ s. f (v ∷ s))) (numbers_below size)))
      ∙ choice-changed same same' change stays keeps (λ v w. refl) var (map (λ v. reduced_from same (suc var) sizes (λ s. f (v ∷ s))) (numbers_below size))

  list-changed : (sizes : List ℕ) (f : List ℕ → X) → listed same' (reduced same' sizes (λ s. change (f s))) ≡ map (moved change stays) (listed same (reduced same sizes f))
  list-changed sizes f = ap (listed same') (reduced-changed 0 sizes f) ∙ listed-changed same same' change stays keeps (λ v w. refl) (reduced same sizes f)

-- a change of leaves that is undone
undone : {X Y : Type 0} (change : X → Y) (back : Y → X) → ((x : X) → back (change x) ≡ x) → (nodes : List (Node X)) → map (with_leaf back) (map (moved change stays) nodes) ≡ nodes
undone change back h [] = refl
undone change back h (Node.leaf x ∷ nodes) = let e = h x in let more = undone change back h nodes in λ i. Node.leaf (e i) ∷ more i
undone change back h (Node.branch v kids ∷ nodes) = ap (λ l. Node.branch v kids ∷ l) (undone change back h nodes)

-- what the diagram of a value tells
pub numbers-told : (sizes : List ℕ) (w : List ℕ → ℤ) → map (with_leaf number_of) (frozen_of sizes (λ s. Num (w s))) ≡ listed int_eq (reduced int_eq sizes w)
numbers-told sizes w =
    ap (map (with_leaf number_of)) (list-changed int_eq leaf_eq Num (λ x y. refl) sizes w) ∙ undone Num number_of (λ x. refl) (listed int_eq (reduced int_eq sizes w))

-- what the diagram of a policy tells
pub actions-told : (sizes : List ℕ) (p : List ℕ → ℕ) → map (with_leaf action_of) (frozen_of sizes (λ s. Act (p s))) ≡ listed (λ a b. a == b) (reduced (λ a b. a == b) sizes p)
actions-told sizes p =
    ap (map (with_leaf action_of)) (list-changed (λ a b. a == b) leaf_eq Act (λ x y. refl) sizes p) ∙ undone Act action_of (λ x. refl) (listed (λ a b. a == b) (reduced (λ a b. a == b) sizes p))

-- functions that agree at all states have one list
pub frozen_of-agree : (sizes : List ℕ) (f g : List ℕ → Leaf) → ((s : List ℕ) → IsState sizes s → f s ≡ g s) → frozen_of sizes f ≡ frozen_of sizes g
frozen_of-agree sizes f g h = ap (listed leaf_eq) (reduced-agree leaf_eq 0 sizes f g h)

-- the table of a function has the function's leaf at each state
pub entry_at-table_of : (sizes : List ℕ) (f : List ℕ → Leaf) (s : List ℕ) → IsState sizes s → entry_at sizes (table_of sizes f) s ≡ f s
entry_at-table_of sizes f s h = get_or-table_of sizes f (rank sizes s) (Num (pos 0)) (rank_below sizes s h) ∙ ap f (get_or-states sizes s h)

-- a table of numbers
get_or-numbers : (table : List ℤ) (k : ℕ) → get_or (map Num table) k (Num (pos 0)) ≡ Num (get_or table k (pos 0))
get_or-numbers [] k = refl
get_or-numbers (x ∷ table) zero = refl
get_or-numbers (x ∷ table) (suc k) = get_or-numbers table k

pub entry_at-numbers : (sizes : List ℕ) (table : List ℤ) (s : List ℕ) → entry_at sizes (map Num table) s ≡ Num (at sizes table s)
entry_at-numbers sizes table s = get_or-numbers table (rank sizes s)
