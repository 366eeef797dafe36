-- The list of a function of a present and a next state, and what it is where the function is one of the present state.
use Rattle.std.proofs.Common.{◌≡◌, ℕ, suc, ◌+◌, ◌*◌, ◌<◌, Bool, true, false, ◌==◌, List, [], ◌∷◌, length, map, refl, sym, ◌∙◌, ap, arith, true≢false}
use Rattle.std.proofs.lemmas.Bool.{ne_eqb}
use Rattle.std.proofs.lemmas.Bool.Decides.{Decides-eqb}
use Rattle.std.proofs.lemmas.List.{length-map}
use Rattle.std.proofs.lemmas.List.Elements.{All-cons, All-nil}
use Rattle.std.proofs.lemmas.Simd.{map-map}
use Rattle.spd_cons_core.specs.declared.key.Entry.{Entry}
use Rattle.spd_model.proofs.CallerLemmas.Diagrams.{map-below, reduced-agree}
use Rattle.spd_model.proofs.CallerLemmas.Lists.{length-numbers_below}
use Rattle.spd_model.specs.Numbers.{numbers_below}
use Rattle.spd_model.specs.Reduced.{Node, node_of, choice_of, reduced, reduced_from, listed}
use Rattle.spd_model.specs.States.{IsState}
use Rattle.spd_nodes.specs.declared.leaf.Leaf.{Leaf}
use Rattle.spd_nodes.specs.Levels.{AllPositive, slots, slot_of}
use Rattle.spd_nodes.specs.Shown.{Shown, IsSound, StandsFor, meaning}
use Rattle.spd_nodes.specs.States.{Agree, Function, point, plain_part, primed_part}
use Rattle.spd_nodes.specs.Trees.{leaf_eq, value_at}
use Rattle.spd_nodes.proofs.CallerLemmas.{IsPointOf, IsState-point, point-parts, positive-slots}
use Rattle.spd_frozen.specs.declared.mixed.MixedNode.{MixedNode as StoredNode}
use Rattle.spd_frozen.specs.declared.mixed.MixedNode.TheVariants as Stored
use Rattle.spd_frozen.specs.Fits.{FitsSizes}
use Rattle.spd_frozen.specs.Freezing.{IsOfPresent}
use Rattle.spd_frozen.specs.Frozen.{IsFrozen, frozen_of, leaf_at}
use Rattle.spd_frozen.specs.Mixed.{slotted, all_slotted, mixed_of, on_plain_slot, plain_of}
use Rattle.spd_frozen.specs.Nodes.{shown, all_shown}
use Rattle.spd_frozen.specs.inner.Completed.{slot_diagram, IsCompleted}
use Rattle.spd_frozen.proofs.FrozenLaws.{ArePositive, frozen-is, frozen-fits, frozen-leaf_at}
use Rattle.spd_frozen.proofs.MovedLaws.{changed, moved, choice-changed, listed-changed}
use Rattle.spd_frozen.proofs.Places.{D}
use Rattle.spd_frozen.proofs.ToldLaws.{frozen_of-agree}
use Rattle.spd_frozen.proofs.TreeDiagrams.{choice-same, at-value}
use Rattle.spd_frozen.proofs.UniqueLaws.{nodes-back}

-- the nodes of a completed diagram are its list
pub completed-list : (s : Shown) (refs : List Entry) (nodes : List (Node Leaf)) (r : Entry) (number : ℕ) → IsCompleted s [] refs nodes (slot_diagram s r) number → nodes ≡ mixed_of s.sizes (meaning s r)
completed-list s refs nodes r number h = nodes-back nodes h.holds.table ∙ ap (λ (ds : List D). map (node_of leaf_eq ds) ds) h.nodes_are

positive-all : (ds : List ℕ) → AllPositive ds → ArePositive ds
positive-all [] h = All-nil (λ d. 0 < d)
positive-all (d ∷ ds) h = All-cons (λ d. 0 < d) d ds h.0 (positive-all ds h.1)

-- what the list of an entry's function is
module _ (s : Shown) (o : IsSound s) (r : Entry) where
  abbrev at-point : List ℕ → Leaf
  at-point p = meaning s r (plain_part p) (primed_part p)

  some : ArePositive (slots s.sizes)
  some = positive-all (slots s.sizes) (positive-slots s.sizes o.layout.values)

  pub mixed-is : IsFrozen (mixed_of s.sizes (meaning s r))
  mixed-is = frozen-is (slots s.sizes) at-point some

  pub mixed-fits : FitsSizes (slots s.sizes) (mixed_of s.sizes (meaning s r))
  mixed-fits = frozen-fits (slots s.sizes) at-point some

  pub mixed-leaf : (x t : List ℕ) → IsState s.sizes x → IsState s.sizes t → leaf_at (mixed_of s.sizes (meaning s r)) (point x t) ≡ meaning s r x t
  mixed-leaf x t h k =
      let here = IsState-point s.sizes x t h k in
      let parts = point-parts s.sizes (point x t) here in
      frozen-leaf_at (slots s.sizes) at-point some (point x t) here ∙ ap (value_at (slots s.sizes) 0 (s.tree r)) parts.point_is

  -- the lists over the variables alone
  positive-sizes : (ds : List ℕ) → AllPositive (slots ds) → ArePositive ds
  positive-sizes [] h = All-nil (λ d. 0 < d)
  positive-sizes (d ∷ ds) h = All-cons (λ d. 0 < d) d ds h.0 (positive-sizes ds h.1.1)

  pub plain-some : ArePositive s.sizes
  plain-some = positive-sizes s.sizes (positive-slots s.sizes o.layout.values)

-- the slot of a variable's present value
abbrev pub plain_slot : ℕ → ℕ
plain_slot v = slot_of v false

abbrev pub same_leaf : Leaf → Leaf
same_leaf x = x

pub plain-apart : (v w : ℕ) → (plain_slot v == plain_slot w) ≡ (v == w)
plain-apart v w = go (v == w) refl
  where
    go : (b : Bool) → (v == w) ≡ b → (plain_slot v == plain_slot w) ≡ b
    go true e = let same : v ≡ w = (Decides-eqb v w).0 e in (Decides-eqb (plain_slot v) (plain_slot w)).1 (ap plain_slot same)
    go false e = ne_eqb (plain_slot v) (plain_slot w) (λ h. (let same : v ≡ w = omega (arith, h) in true≢false (sym ((Decides-eqb v w).1 same) ∙ e)))

-- the diagram over the slots of a function of the present state has a branch on a present value for each branch of its diagram
plain-reduced : (ds : List ℕ) (k var : ℕ) (g : List ℕ → Leaf) → k ≡ 2 * var → AllPositive (slots ds)
    → reduced_from leaf_eq k (slots ds) (λ p. g (plain_part p)) ≡ changed same_leaf plain_slot (reduced_from leaf_eq var ds g)
plain-reduced [] k var g e o = refl
plain-reduced (d ∷ ds) k var g e o =
    let R : ℕ → D = λ j. reduced_from leaf_eq (suc k) (d ∷ slots ds) (λ p. g (plain_part (j ∷ p))) in
    let kids : ℕ → D = λ v. reduced_from leaf_eq (suc var) ds (λ x. g (v ∷ x)) in
    let long : length (map R (numbers_below d)) ≡ d = length-map (numbers_below d) R ∙ length-numbers_below d in
    let some : 0 < d = o.0 in
    let each : map (λ v. reduced_from leaf_eq (suc (suc k)) (slots ds) (λ p. g (v ∷ plain_part p))) (numbers_below d) ≡ map (λ v. changed same_leaf plain_slot (kids v)) (numbers_below d) =
    map-below (λ v. reduced_from leaf_eq (suc (suc k)) (slots ds) (λ p. g (v ∷ plain_part p))) (λ v. changed same_leaf plain_slot (kids v)) d
    (λ v q. plain-reduced ds (suc (suc k)) (suc var) (λ x. g (v ∷ x)) (omega arith) o.1.1) in
    let slot : suc k ≡ plain_slot var = omega arith in
    choice-same k (map R (numbers_below d)) (R 0) (omega (arith, long)) (λ i q. at-value R d i (omega (arith, long)))
    ∙ ap (choice_of leaf_eq (suc k)) (each ∙ sym (map-map (changed same_leaf plain_slot) kids (numbers_below d)))
    ∙ ap (λ (m : ℕ). choice_of leaf_eq m (map (changed same_leaf plain_slot) (map kids (numbers_below d)))) slot
    ∙ choice-changed leaf_eq leaf_eq same_leaf plain_slot (λ x y. refl) plain-apart var (map kids (numbers_below d))

moved-plain : (nodes : List (Node Leaf)) → map (moved same_leaf plain_slot) nodes ≡ map on_plain_slot nodes
moved-plain [] = refl
moved-plain (Node.leaf x ∷ nodes) = ap (λ (l : List (Node Leaf)). Node.leaf x ∷ l) (moved-plain nodes)
moved-plain (Node.branch v kids ∷ nodes) = ap (λ (l : List (Node Leaf)). Node.branch (plain_slot v) kids ∷ l) (moved-plain nodes)

-- the list of a function of the present state, over the slots
pub plain-list : (s : Shown) (o : IsSound s) (r : Entry) → IsOfPresent s r → mixed_of s.sizes (meaning s r) ≡ map on_plain_slot (frozen_of s.sizes (λ x. meaning s r x x))
plain-list s o r h =
    let g : List ℕ → Leaf = λ x. meaning s r x x in
    let agree : reduced leaf_eq (slots s.sizes) (λ p. meaning s r (plain_part p) (primed_part p)) ≡ reduced leaf_eq (slots s.sizes) (λ p. g (plain_part p)) =
    reduced-agree leaf_eq 0 (slots s.sizes) (λ p. meaning s r (plain_part p) (primed_part p)) (λ p. g (plain_part p))
    (λ p i. let q : IsPointOf s.sizes p = point-parts s.sizes p i in h.at (plain_part p) (primed_part p) q.plain q.primed) in
    let over : reduced leaf_eq (slots s.sizes) (λ p. g (plain_part p)) ≡ changed same_leaf plain_slot (reduced leaf_eq s.sizes g) = plain-reduced s.sizes 0 0 g (omega arith) (positive-slots s.sizes o.layout.values) in
    ap (listed leaf_eq) (agree ∙ over) ∙ listed-changed leaf_eq leaf_eq same_leaf plain_slot (λ x y. refl) plain-apart (reduced leaf_eq s.sizes g) ∙ moved-plain (frozen_of s.sizes g)

plain-node : (m : StoredNode) (n : Node Leaf) → slotted m ≡ on_plain_slot n → shown (plain_of m) ≡ n
plain-node (Stored.Leaf x) (Node.leaf y) e = e
plain-node (Stored.Leaf x) (Node.branch w ks) e = absurd (cc e)
plain-node (Stored.Branch v true kids) (Node.leaf y) e = absurd (cc e)
plain-node (Stored.Branch v false kids) (Node.leaf y) e = absurd (cc e)
plain-node (Stored.Branch v true kids) (Node.branch w ks) e = let a : slot_of v true ≡ slot_of w false = cc in absurd (omega arith)
plain-node (Stored.Branch v false kids) (Node.branch w ks) e =
    let a : slot_of v false ≡ slot_of w false = cc in
    let b : kids.items ≡ ks = cc in
    let c : v ≡ w = omega arith in
    λ i. Node.branch (c i) (b i)

-- nodes that stand for those on present values are these
pub plain-back : (stored : List StoredNode) (nodes : List (Node Leaf)) → all_slotted stored ≡ map on_plain_slot nodes → all_shown (map plain_of stored) ≡ nodes
plain-back [] [] e = refl
plain-back [] (n ∷ nodes) e = absurd (cc e)
plain-back (m ∷ stored) [] e = absurd (cc e)
plain-back (m ∷ stored) (n ∷ nodes) e =
    let a : slotted m ≡ on_plain_slot n = cc in
    let b : all_slotted stored ≡ map on_plain_slot nodes = cc in
    let first = plain-node m n a in
    let others = plain-back stored nodes b in
    λ i. first i ∷ others i

-- an entry that stands for a function of the present state
pub present-from : (s : Shown) (r : Entry) (g : List ℕ → Leaf) → StandsFor s r (λ x t. g x) → IsOfPresent s r
present-from s r g h = record { at = λ x t i j. h.value.at x t i j ∙ sym (h.value.at x x i i) }

-- its list is the function's
pub present-list : (s : Shown) (r : Entry) (g : List ℕ → Leaf) → StandsFor s r (λ x t. g x) → frozen_of s.sizes (λ x. meaning s r x x) ≡ frozen_of s.sizes g
present-list s r g h = frozen_of-agree s.sizes (λ x. meaning s r x x) g (λ x i. h.value.at x x i i)

-- functions that agree at all states have one list over the slots
pub mixed_of-agree : (sizes : List ℕ) (f g : Function) → Agree sizes f g → mixed_of sizes f ≡ mixed_of sizes g
mixed_of-agree sizes f g h =
    frozen_of-agree (slots sizes) (λ p. f (plain_part p) (primed_part p)) (λ p. g (plain_part p) (primed_part p))
    (λ p i. let q : IsPointOf sizes p = point-parts sizes p i in h.at (plain_part p) (primed_part p) q.plain q.primed)
