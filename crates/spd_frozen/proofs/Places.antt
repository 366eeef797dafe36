-- Equal diagrams, and where a diagram stands in a list.
use Rattle.std.proofs.Common.{◌≡◌, ℕ, ◌<◌, ◌⊎◌, inl, inr, Bool, true, false, not, ◌==◌, List, [], ◌∷◌, ◌++◌, length, get_or, refl, ap, sym, ◌∙◌, subst, arith, length-append, true≢false, nat_lt, eqb}
use Rattle.std.specs.Prelude.{Contains}
use Rattle.std.specs.List.{list_any, position_or_len}
use Rattle.std.proofs.lemmas.Bool.{and_parts}
use Rattle.std.proofs.lemmas.Bool.Decides.{Decides-eqb, Decides-ltb, leb_tells, nat_tests}
use Rattle.std.proofs.lemmas.List.{get_or_default}
use Rattle.std.proofs.lemmas.List.Folds.{prefix_len-append, position_or_len_push, list_any_at, Any-from_list_any}
use Rattle.std.proofs.lemmas.List.Sums.{fails_before_first, passes_at_first, prefix_len-le-length}
use Rattle.spd_model.specs.Reduced.{Diagram, Subtrees, none, also, is_equal, are_equal, node_number, with_node}
use Rattle.spd_nodes.specs.Trees.{leaf_eq}
use Rattle.spd_nodes.specs.declared.leaf.Leaf.{Leaf}
use Rattle.spd_nodes.proofs.CallerLemmas.{leaf_eq-refl, leaf_eq-true}

abbrev pub D : Type 0
D = Diagram Leaf

mutual
  pub is_equal-refl : (d : D) → is_equal leaf_eq d d ≡ true
  is_equal-refl (Diagram.leaf x) = leaf_eq-refl x
  is_equal-refl (Diagram.branch v ds) = rw ((Decides-eqb v v).1 refl, are_equal-refl ds) refl

  are_equal-refl : (ds : Subtrees Leaf) → are_equal leaf_eq ds ds ≡ true
  are_equal-refl none = refl
  are_equal-refl (also d ds) = rw (is_equal-refl d, are_equal-refl ds) refl

mutual
  pub is_equal-true : (d e : D) → is_equal leaf_eq d e ≡ true → d ≡ e
  is_equal-true (Diagram.leaf x) (Diagram.leaf y) h = ap Diagram.leaf (leaf_eq-true x y h)
  is_equal-true (Diagram.leaf x) (Diagram.branch w es) h = cc
  is_equal-true (Diagram.branch v ds) (Diagram.leaf y) h = cc
  is_equal-true (Diagram.branch v ds) (Diagram.branch w es) h =
      let p = and_parts (v == w) (are_equal leaf_eq ds es) h in
      let a : v ≡ w = (Decides-eqb v w).0 p.0 in
      let b : ds ≡ es = are_equal-true ds es p.1 in
      λ i. Diagram.branch (a i) (b i)

  are_equal-true : (ds es : Subtrees Leaf) → are_equal leaf_eq ds es ≡ true → ds ≡ es
  are_equal-true none none h = refl
  are_equal-true none (also e es) h = cc
  are_equal-true (also d ds) none h = cc
  are_equal-true (also d ds) (also e es) h =
      let p = and_parts (is_equal leaf_eq d e) (are_equal leaf_eq ds es) h in
      let a : d ≡ e = is_equal-true d e p.0 in
      let b : ds ≡ es = are_equal-true ds es p.1 in
      λ i. also (a i) (b i)

-- where a diagram stands first, or the length of the list
abbrev pub place : List D → D → ℕ
place ds d = position_or_len (is_equal leaf_eq d) ds

pub place-in : (ds : List D) (d : D) → Contains ds d → place ds d < length ds
place-in ds d c = elim (leb_tells (length ds) (place ds d)) [
  | inl out ↦ (let k : c.0 < place ds d = omega (arith, c.1, out.1) in
      absurd (true≢false (sym (subst (λ (x : D). is_equal leaf_eq d x ≡ true) (sym c.2) (is_equal-refl d)) ∙ fails_before_first (is_equal leaf_eq d) ds c.0 d k)))
  | inr h ↦ h.1
]

pub place-is : (ds : List D) (d e : D) → place ds d < length ds → get_or ds (place ds d) e ≡ d
place-is ds d e h = sym (is_equal-true d (get_or ds (place ds d) e) (passes_at_first (is_equal leaf_eq d) ds e h))

pub number-place : (ds : List D) (d : D) → place ds d < length ds → node_number leaf_eq ds d ≡ place ds d
number-place ds d h = let t : nat_lt (place ds d) (length ds) ≡ true = (Decides-ltb (place ds d) (length ds)).1 h in rw t refl

-- the number of a diagram of the list
pub number-below : (ds : List D) (d : D) → Contains ds d → node_number leaf_eq ds d < length ds
number-below ds d c = subst (λ (n : ℕ). n < length ds) (sym (number-place ds d (place-in ds d c))) (place-in ds d c)

pub number-is : (ds : List D) (d e : D) → Contains ds d → get_or ds (node_number leaf_eq ds d) e ≡ d
number-is ds d e c = let h = place-in ds d c in ap (λ (n : ℕ). get_or ds n e) (number-place ds d h) ∙ place-is ds d e h

-- further diagrams change no number
pub number-append : (ds es : List D) (d : D) → Contains ds d → node_number leaf_eq (ds ++ es) d ≡ node_number leaf_eq ds d
number-append ds es d c =
    let h = place-in ds d c in
    let n : eqb (place ds d) (length ds) ≡ false = grind (arith, nat_tests) in
    let p : place (ds ++ es) d ≡ place ds d = prefix_len-append (λ x. not (is_equal leaf_eq d x)) ds es ∙ rw n refl in
    let l : place (ds ++ es) d < length (ds ++ es) = omega (arith, length-append ds es) in
    number-place (ds ++ es) d l ∙ p ∙ sym (number-place ds d h)

-- a diagram that isn't there
abbrev pub IsNew : List D → D → Type 0
IsNew ds d = list_any (is_equal leaf_eq d) ds ≡ false

pub place-new : (ds : List D) (d : D) → IsNew ds d → place ds d ≡ length ds
place-new ds d h = elim (leb_tells (length ds) (place ds d)) [
  | inl out ↦ (let below = prefix_len-le-length (λ x. not (is_equal leaf_eq d x)) ds in omega (arith, out.1, below))
  | inr in' ↦ absurd (true≢false (sym (list_any_at (is_equal leaf_eq d) ds (place ds d) d in'.1 (passes_at_first (is_equal leaf_eq d) ds d in'.1)) ∙ h))
]

pub number-push : (ds : List D) (d : D) → IsNew ds d → node_number leaf_eq (ds ++ d ∷ []) d ≡ length ds
number-push ds d h =
    let n = place-new ds d h in
    let e : eqb (place ds d) (length ds) ≡ true = (Decides-eqb (place ds d) (length ds)).1 n in
    let p : place (ds ++ d ∷ []) d ≡ length ds = position_or_len_push (is_equal leaf_eq d) ds d ∙ rw (e, is_equal-refl d) (omega arith) in
    number-place (ds ++ d ∷ []) d (omega (arith, length-append ds (d ∷ []))) ∙ p

-- a test that passes finds the diagram
pub there-Contains : (ds : List D) (d : D) → list_any (is_equal leaf_eq d) ds ≡ true → Contains ds d
there-Contains ds d h =
    let a = Any-from_list_any (is_equal leaf_eq d) ds h in
    let e : get_or ds a.0 d ≡ a.1 = get_or_default ds a.0 d a.1 a.2 ∙ a.3 in
    (a.0, a.2, e ∙ sym (is_equal-true d a.1 a.4))

pub Contains-there : (ds : List D) (d : D) → Contains ds d → list_any (is_equal leaf_eq d) ds ≡ true
Contains-there ds d c = list_any_at (is_equal leaf_eq d) ds c.0 d c.1 (subst (λ (x : D). is_equal leaf_eq d x ≡ true) (sym c.2) (is_equal-refl d))

-- a diagram stands in a list, or it doesn't
pub there-or-new : (ds : List D) (d : D) → Contains ds d ⊎ IsNew ds d
there-or-new ds d = go (list_any (is_equal leaf_eq d) ds) refl
  where
    go : (b : Bool) → list_any (is_equal leaf_eq d) ds ≡ b → Contains ds d ⊎ IsNew ds d
    go true e = inl (there-Contains ds d e)
    go false e = inr e

-- a list with one more diagram at its end, unless it is there
pub with_node-there : (ds : List D) (d : D) → Contains ds d → with_node leaf_eq ds d ≡ ds
with_node-there ds d c = rw (Contains-there ds d c) refl

pub with_node-new : (ds : List D) (d : D) → IsNew ds d → with_node leaf_eq ds d ≡ ds ++ d ∷ []
with_node-new ds d h = rw h refl
