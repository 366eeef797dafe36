-- There are no more pairs of known entries whose trees are nodes of two trees than nodes of the one times nodes of the other.
use Rattle.std.proofs.Common.{◌≡◌, ◌*◌, ◌≤◌, ◌⊎◌, inl, inr, ◌&&◌, Bool, true, false, cond, List, [], ◌∷◌, ◌++◌, All, length, length-append, map, refl, ap, sym, ◌∙◌, subst, true≢false, arith}
use Rattle.std.specs.Prelude.{Contains}
use Rattle.std.specs.List.{IsDistinct, AllByRecursion}
use Rattle.std.specs.Set.{is_member, unique_keys}
use Rattle.std.specs.Cmp.{IsEquivalence}
use Rattle.std.proofs.lemmas.Bool.{and_parts, and_from}
use Rattle.std.proofs.lemmas.Bool.Decides.{Decides-eqb}
use Rattle.std.proofs.lemmas.List.{length-map}
use Rattle.std.proofs.lemmas.List.Elements.{All-head, All-tail, All-map, All-weaker, All-contains, Contains-append_left, Contains-append_right}
use Rattle.std.proofs.lemmas.Map.Made.{length-le_from_is_member}
use Rattle.std.proofs.lemmas.Map.Views.{list_any-from_Contains, Contains-from_any}
use Rattle.spd_cons_core.specs.declared.key.Entry.{Entry}
use Rattle.spd_cons_core.proofs.CallerLemmas.{contains_cases, contains_cons}
use Rattle.spd_memo.proofs.CallerLemmas.{SamePair}
use native.Mathlib.Nat.{suc-mul}
use Rattle.spd_model.proofs.CallerLemmas.Lists.{Contains-map}
use Rattle.spd_nodes.specs.Trees.{Tree, IsNode, tree_eq, subtrees_of}
use Rattle.spd_nodes.specs.Shown.{Shown, IsSound}
use Rattle.spd_nodes.proofs.CallerLemmas.{equivalence, nodes-node, tree_eq-refl, tree_eq-true}
use Rattle.spd_apply.specs.Costs.{pair_count, ArePart}

-- ---- equality of pairs of trees

abbrev pairs_eq : Tree × Tree → Tree × Tree → Bool
pairs_eq p q = tree_eq p.0 q.0 && tree_eq p.1 q.1

pairs_eq-true : (p q : Tree × Tree) → pairs_eq p q ≡ true → p ≡ q
pairs_eq-true p q h =
    let parts = and_parts _ _ h in
    let left = tree_eq-true p.0 q.0 parts.0 in
    let right = tree_eq-true p.1 q.1 parts.1 in
    λ i. (left i, right i)

pairs_eq-itself : (p : Tree × Tree) → pairs_eq p p ≡ true
pairs_eq-itself p = and_from _ _ (tree_eq-refl p.0) (tree_eq-refl p.1)

laws : IsEquivalence pairs_eq
laws = equivalence pairs_eq pairs_eq-itself pairs_eq-true

-- ---- all pairs of two lists

abbrev beside : List Tree → Tree → List (Tree × Tree)
beside us t = map (λ u. (t, u)) us

abbrev all_pairs : List Tree → List Tree → List (Tree × Tree)
all_pairs [] us = []
all_pairs (t ∷ ts) us = beside us t ++ all_pairs ts us

length-all_pairs : (ts us : List Tree) → length (all_pairs ts us) ≡ length ts * length us
length-all_pairs [] us = omega arith
length-all_pairs (t ∷ ts) us =
    let row : length (beside us t) ≡ length us = length-map us _ in
    omega (arith, length-append (beside us t) (all_pairs ts us), row, length-all_pairs ts us, suc-mul (length ts) (length us))

Contains-all_pairs : (ts us : List Tree) (t u : Tree) → Contains ts t → Contains us u → Contains (all_pairs ts us) (t, u)
Contains-all_pairs [] us t u h k = absurd (omega (arith, h.1))
Contains-all_pairs (x ∷ ts) us t u h k = elim (contains_cases x ts t h) [
  | inl same ↦ Contains-append_left (beside us x) (all_pairs ts us) (t, u)
      (subst (λ v. Contains (beside us x) (v, u)) same (Contains-map (λ (v : Tree). (x, v)) us u k))
  | inr later ↦ Contains-append_right (beside us x) (all_pairs ts us) (t, u) (Contains-all_pairs ts us t u later k)
]

-- ---- a list with each tree once

Contains-unique : (ts : List Tree) (t : Tree) → Contains ts t → Contains (unique_keys tree_eq ts) t
Contains-unique [] t h = h
Contains-unique (x ∷ ts) t h = go (Contains-unique ts t) (is_member tree_eq ts x) refl (contains_cases x ts t h)
  where
    go : (Contains ts t → Contains (unique_keys tree_eq ts) t) → (b : Bool) → is_member tree_eq ts x ≡ b → (x ≡ t) ⊎ Contains ts t
        → Contains (cond b (unique_keys tree_eq ts) (x ∷ unique_keys tree_eq ts)) t
    go later true e (inl same) = later (subst (λ v. Contains ts v) same (Contains-from_any tree_eq-true x ts e))
    go later true e (inr there) = later there
    go later false e (inl same) = (0, omega arith, same)
    go later false e (inr there) = contains_cons x (unique_keys tree_eq ts) t (later there)

-- ---- the pairs

module _ (s : Shown) (o : IsSound s) (t u : Tree) where
  abbrev trees_of : Entry × Entry → Tree × Tree
  trees_of p = (s.tree p.0, s.tree p.1)

  apart : (p q : Entry × Entry) → ArePart s t u p → ArePart s t u q → SamePair p q ≡ false → pairs_eq (trees_of p) (trees_of q) ≡ false
  apart p q a b h = go (pairs_eq (trees_of p) (trees_of q)) refl
    where
      go : (v : Bool) → pairs_eq (trees_of p) (trees_of q) ≡ v → pairs_eq (trees_of p) (trees_of q) ≡ false
      go false e = e
      go true e =
          let parts = and_parts _ _ e in
          let left : p.0 ≡ q.0 = o.once p.0 q.0 a.left_known b.left_known (tree_eq-true (s.tree p.0) (s.tree q.0) parts.0) in
          let right : p.1 ≡ q.1 = o.once p.1 q.1 a.right_known b.right_known (tree_eq-true (s.tree p.1) (s.tree q.1) parts.1) in
          let same : SamePair p q ≡ true = and_from _ _ ((Decides-eqb p.0.0 q.0.0).1 (ap (λ (r : Entry). r.0) left)) ((Decides-eqb p.1.0 q.1.0).1 (ap (λ (r : Entry). r.0) right)) in
          absurd (true≢false (sym same ∙ h))

  apart-all : (p : Entry × Entry) → ArePart s t u p → (ps : List (Entry × Entry)) → All (ArePart s t u) ps → AllByRecursion (λ q. SamePair p q ≡ false) ps
      → AllByRecursion (λ v. pairs_eq (trees_of p) v ≡ false) (map trees_of ps)
  apart-all p a [] parts h = tt
  apart-all p a (q ∷ ps) parts h =
      (apart p q a (All-head (ArePart s t u) q ps parts) h.0, apart-all p a ps (All-tail (ArePart s t u) q ps parts) h.1)

  distinct-trees : (ps : List (Entry × Entry)) → All (ArePart s t u) ps → IsDistinct SamePair ps → IsDistinct pairs_eq (map trees_of ps)
  unfolding IsDistinct
  distinct-trees [] parts h = tt
  distinct-trees (p ∷ ps) parts h =
      let later = All-tail (ArePart s t u) p ps parts in
      (apart-all p (All-head (ArePart s t u) p ps parts) ps later h.0, distinct-trees ps later h.1)

  abbrev AreNodes : Tree × Tree → Type 0
  AreNodes v = IsNode v.0 t × IsNode v.1 u

  nodes-there : (ps : List (Entry × Entry)) → All (ArePart s t u) ps → (q : Tree × Tree) → is_member pairs_eq (map trees_of ps) q ≡ true
      → is_member pairs_eq (all_pairs (unique_keys tree_eq (subtrees_of t)) (unique_keys tree_eq (subtrees_of u))) q ≡ true
  nodes-there ps parts q h =
      let there : Contains (map trees_of ps) q = Contains-from_any pairs_eq-true q (map trees_of ps) h in
      let all : All AreNodes (map trees_of ps) = All-map AreNodes trees_of ps (All-weaker (ArePart s t u) (λ p. AreNodes (trees_of p)) (λ p a. (a.left, a.right)) ps parts) in
      let nodes : AreNodes q = All-contains AreNodes (map trees_of ps) q all there in
      list_any-from_Contains laws q _
      (Contains-all_pairs (unique_keys tree_eq (subtrees_of t)) (unique_keys tree_eq (subtrees_of u)) q.0 q.1
      (Contains-unique (subtrees_of t) q.0 (nodes-node q.0 t nodes.0)) (Contains-unique (subtrees_of u) q.1 (nodes-node q.1 u nodes.1)))

  pub pairs-few : (ps : List (Entry × Entry)) → All (ArePart s t u) ps → IsDistinct SamePair ps → length ps ≤ pair_count t u
  pairs-few ps parts h =
      let most = length-le_from_is_member laws (map trees_of ps) (all_pairs (unique_keys tree_eq (subtrees_of t)) (unique_keys tree_eq (subtrees_of u)))
      (distinct-trees ps parts h) (nodes-there ps parts) in
      omega (arith, most, length-map ps trees_of, length-all_pairs (unique_keys tree_eq (subtrees_of t)) (unique_keys tree_eq (subtrees_of u)))
