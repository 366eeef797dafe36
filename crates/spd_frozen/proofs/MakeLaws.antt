-- Making the diagrams of the nodes of a list, one after the other.
use Rattle.std.proofs.Common.{◌≡◌, ◌≢◌, ℕ, zero, suc, ◌+◌, ◌-◌, ◌*◌, ◌<◌, ◌≤◌, ◌==◌, Bool, true, false, List, [], ◌∷◌, length, map, take, get_or, set, Some, Option, refl, sym, ◌∙◌, ap, subst, arith, pos, Result, Ok, Err, true≢false}
use Rattle.std.specs.Prelude.{All, slice_get, slice_index, OnOk}
use Rattle.std.proofs.lemmas.Bool.Decides.{Decides-eqb}
use Rattle.std.proofs.lemmas.List.{length-map, get_or-map, get_or_default, get_or-set_same, get_or-set_other, length-set}
use Rattle.std.proofs.lemmas.Option.{slice_get-get_or, slice_get_within, get_or_from_slice_get}
use Rattle.std.proofs.lemmas.Simd.{map-map}
use Rattle.spd_cons_core.specs.declared.key.Entry.{Entry}
use Rattle.spd_model.specs.Reduced.{subtrees_of, Node}
use Rattle.spd_nodes.specs.declared.forest.StoreFault.{StoreFault}
use Rattle.spd_nodes.specs.declared.forest.StoreFault.TheVariants as F
use Rattle.spd_nodes.specs.declared.leaf.Leaf.{Leaf}
use Rattle.spd_nodes.specs.declared.leaf.Leaf.TheVariants.{Num}
use Rattle.spd_nodes.specs.Levels.{levels_of, slots, slot_of, IsSlot}
use Rattle.spd_nodes.specs.Limits.{IsLayout}
use Rattle.spd_nodes.specs.Trees.{Tree, Ends, IsFrom, IsReduced, CanTest, join}
use Rattle.spd_nodes.specs.States.{point}
use Rattle.spd_nodes.specs.Shown.{Shown, IsSound, Grows, KnowsAs, MakesTree, MakesDiagram}
use Rattle.spd_nodes.proofs.CallerLemmas.{IsState-point, IsTreeFor, Within, levels_of-slots, makes-diagram, part-fails, part-then}
use Rattle.spd_frozen.specs.Fits.{FitsNode, FitsSizes}
use Rattle.spd_frozen.specs.Frozen.{IsNodeAt, IsFrozen, diagram_of, diagrams}
use Rattle.spd_frozen.specs.Thawing.{mixed_function}
use Rattle.spd_frozen.specs.inner.Thawed.{none_tree, tests_from, slot_tree, slot_trees, node_tree, node_at, node_kids, node_slot, kid_trees, HasMade}
use Rattle.spd_frozen.proofs.Places.{D}
use Rattle.spd_frozen.proofs.Reading.{kid_at}
use Rattle.spd_frozen.proofs.FrozenLaws.{Suits}
use Rattle.spd_frozen.proofs.ThawLaws.{AnyLeaf, slot_trees-fit, slot_tree-fits, slot_tree-value, nodes-suit, node-diagram, next-slot, tests-next, can-next, level-next, within-kid, within-rest}

trees-list : (ds : List ℕ) (es : List D) → slot_trees ds (subtrees_of es) ≡ map (slot_tree ds) es
trees-list ds [] = refl
trees-list ds (e ∷ es) = ap (λ (l : List Tree). slot_tree ds e ∷ l) (trees-list ds es)

small-slots : (ds : List ℕ) (k : ℕ) → All (λ d. (0 < d) × (d ≤ 64)) ds → get_or (slots ds) k 0 ≤ 64
small-slots [] k h = omega arith
small-slots (d ∷ ds) zero h = (h 0 0 (omega arith)).1
small-slots (d ∷ ds) (suc zero) h = (h 0 0 (omega arith)).1
small-slots (d ∷ ds) (suc (suc k)) h = small-slots ds k (λ i e q. h (suc i) e (omega arith))

-- a node of a list that fits the slots
module _ (ds : List ℕ) (nodes : List (Node Leaf)) (frozen : IsFrozen nodes) (fits : FitsSizes ds nodes) (number : ℕ) (low : number < length nodes) where
  here : get_or nodes number (node_at nodes number) ≡ node_at nodes number
  here = get_or_default nodes number (node_at nodes number) (Node.leaf (Num (pos 0))) low

  diagram-is : (n : Node Leaf) → node_at nodes number ≡ n → kid_at (diagrams nodes) number ≡ diagram_of (diagrams nodes) n
  diagram-is n e = node-diagram ds nodes frozen fits number (node_at nodes number) low here ∙ ap (diagram_of (diagrams nodes)) e

  suit : (n : Node Leaf) → node_at nodes number ≡ n → Suits ds AnyLeaf 0 (diagram_of (diagrams nodes) n)
  suit n e = subst (Suits ds AnyLeaf 0) (diagram-is n e) (nodes-suit ds nodes frozen fits (suc number) number (omega arith) low)

  pub leaf-tree : (a : Leaf) → node_at nodes number ≡ Node.leaf a → node_tree ds nodes number ≡ Ends a
  leaf-tree a e = ap (slot_tree ds) (diagram-is (Node.leaf a) e)

  trees-are : (kids : List ℕ) → slot_trees ds (subtrees_of (map (kid_at (diagrams nodes)) kids)) ≡ map (node_tree ds nodes) kids
  trees-are kids = trees-list ds (map (kid_at (diagrams nodes)) kids) ∙ map-map (slot_tree ds) (kid_at (diagrams nodes)) kids

  pub branch-tree : (v : ℕ) → node_at nodes number ≡ Node.branch v (node_kids (node_at nodes number)) → node_tree ds nodes number ≡ tests_from (kid_trees ds nodes number) (levels_of (take v ds)) 0
  branch-tree v e =
      let kids = node_kids (node_at nodes number) in
      ap (slot_tree ds) (diagram-is (Node.branch v kids) e) ∙ ap (λ (l : List Tree). tests_from l (levels_of (take v ds)) 0) (trees-are kids)

  -- what is known of its kids
  pub record Kids (first end : ℕ) : Type 0 where
    pub slot_in : node_slot (node_at nodes number) < length ds
    pub some : 0 < length (kid_trees ds nodes number)
    pub count : length (kid_trees ds nodes number) ≡ slice_index ds (node_slot (node_at nodes number))
    pub end_is : end ≡ first + (length (kid_trees ds nodes number) - 1)
    pub fit : (j : ℕ) → j < length (kid_trees ds nodes number) → IsReduced ds 0 (get_or (kid_trees ds nodes number) j none_tree) × IsFrom ds 0 end (get_or (kid_trees ds nodes number) j none_tree)

  kids-of : (n : Node Leaf) → node_at nodes number ≡ n → 0 < length (node_kids n) → Kids (levels_of (take (node_slot (node_at nodes number)) ds)) (levels_of (take (node_slot (node_at nodes number)) ds) + (slice_index ds (node_slot (node_at nodes number)) - 1))
  kids-of (Node.leaf x) e some = absurd (omega arith)
  kids-of (Node.branch v kids) e some =
      let trees : kid_trees ds nodes number ≡ slot_trees ds (subtrees_of (map (kid_at (diagrams nodes)) kids)) = ap (λ (m : Node Leaf). map (node_tree ds nodes) (node_kids m)) e ∙ sym (trees-are kids) in
      let slot : v ≡ node_slot (node_at nodes number) = ap node_slot (sym e) in
      let s = suit (Node.branch v kids) e in
      let fit : FitsNode ds (Node.branch v kids) = subst (FitsNode ds) e (fits number (Node.leaf (Num (pos 0))) low) in
      let long : length (kid_trees ds nodes number) ≡ length kids = ap (λ (m : Node Leaf). length (map (node_tree ds nodes) (node_kids m))) e ∙ length-map kids (node_tree ds nodes) in
      let made : Kids (levels_of (take v ds)) (levels_of (take v ds) + (slice_index ds v - 1)) = record {
        slot_in = subst (λ (w : ℕ). w < length ds) slot fit.0;
        some = omega (arith, long);
        count = subst (λ (w : ℕ). length (kid_trees ds nodes number) ≡ slice_index ds w) slot (long ∙ fit.1);
        end_is = ap (λ (k : ℕ). levels_of (take v ds) + (k - 1)) (sym (long ∙ fit.1));
        fit = λ j q. subst (λ (l : List Tree). IsReduced ds 0 (get_or l j none_tree) × IsFrom ds 0 (levels_of (take v ds) + (slice_index ds v - 1)) (get_or l j none_tree)) (sym trees)
            (let k = slot_trees-fit ds (suc v) (subtrees_of (map (kid_at (diagrams nodes)) kids)) s.4 j (omega (arith, q, ap length trees)) in
            (k.0, subst (λ (x : ℕ). IsFrom ds 0 x (get_or (slot_trees ds (subtrees_of (map (kid_at (diagrams nodes)) kids))) j none_tree)) (next-slot ds v fit.0) k.1));
      } in
      subst (λ (w : ℕ). Kids (levels_of (take w ds)) (levels_of (take w ds) + (slice_index ds w - 1))) slot made

  -- the kid for a value
  pub kid-low : (n : Node Leaf) (value : ℕ) → node_at nodes number ≡ n → value < length (node_kids n) → get_or (node_kids n) value 0 < number
  kid-low (Node.leaf x) value e h = absurd (omega arith)
  kid-low (Node.branch v kids) value e h =
      let at : IsNodeAt nodes number (Node.branch v kids) = subst (IsNodeAt nodes number) e (frozen.each number (node_at nodes number) (slice_get-get_or nodes number (Node.leaf (Num (pos 0))) low)) in
      (at.1 value 0 h).0

  pub kid-tree : (value : ℕ) → value < length (node_kids (node_at nodes number)) → get_or (kid_trees ds nodes number) value none_tree ≡ node_tree ds nodes (get_or (node_kids (node_at nodes number)) value 0)
  kid-tree value h = get_or-map (node_tree ds nodes) (node_kids (node_at nodes number)) value 0 none_tree h

  pub kids-long : length (kid_trees ds nodes number) ≡ length (node_kids (node_at nodes number))
  kids-long = length-map (node_kids (node_at nodes number)) (node_tree ds nodes)

  pub kids-are : (value : ℕ) → value < length (node_kids (node_at nodes number)) → Kids (levels_of (take (node_slot (node_at nodes number)) ds)) (levels_of (take (node_slot (node_at nodes number)) ds) + (slice_index ds (node_slot (node_at nodes number)) - 1))
  kids-are value h = kids-of (node_at nodes number) refl (omega arith)

-- the tests of a branch from a value on, made after the kid for the value
module _ (s : Shown) (o : IsSound s) (nodes : List (Node Leaf)) (frozen : IsFrozen nodes) (fits : FitsSizes (slots s.sizes) nodes) (number first value : ℕ) (low : number < length nodes)
    (begins : first ≡ levels_of (take (node_slot (node_at nodes number)) (slots s.sizes))) (h : value < length (node_kids (node_at nodes number))) where
  abbrev ds : List ℕ
  ds = slots s.sizes

  abbrev trees : List Tree
  trees = kid_trees ds nodes number

  abbrev kid : ℕ
  kid = get_or (node_kids (node_at nodes number)) value 0

  abbrev slot : ℕ
  slot = node_slot (node_at nodes number)

  abbrev stop : ℕ
  stop = first + (slice_index ds slot - 1)

  k : Kids ds nodes frozen fits number low first (first + (slice_index ds (node_slot (node_at nodes number)) - 1))
  k = subst (λ (x : ℕ). Kids ds nodes frozen fits number low x (x + (slice_index ds (node_slot (node_at nodes number)) - 1))) (sym begins) (kids-are ds nodes frozen fits number low value h)

  is : IsSlot ds (node_slot (node_at nodes number)) first (first + (slice_index ds (node_slot (node_at nodes number)) - 1))
  is = record { slot_in = k.slot_in; first_is = begins; end_is = refl }

  in' : value < length trees
  in' = omega (arith, h, kids-long ds nodes frozen fits number low)

  pub small : value < 64
  small = omega (arith, in', k.count, small-slots s.sizes (node_slot (node_at nodes number)) o.layout.values)

  pub smaller : kid < number
  smaller = kid-low ds nodes frozen fits number low (node_at nodes number) value refl h

  kid-is : get_or trees value none_tree ≡ node_tree ds nodes kid
  kid-is = kid-tree ds nodes frozen fits number low value h

  kid-within : Within (node_tree ds nodes kid ∷ []) (tests_from trees first value ∷ [])
  kid-within = subst (λ (x : Tree). Within (x ∷ []) (tests_from trees first value ∷ [])) kid-is (within-kid ds slot first stop trees is k.some k.end_is k.fit value in')

  pub kid-fails : (t : Shown) (e : StoreFault) → MakesTree s t (node_tree ds nodes kid) (Err e) → MakesTree s t (tests_from trees first value) (Err e)
  kid-fails t e m = part-fails e kid-within m

  -- what follows the later values, and the test
  module _ (more : value + 1 < length (node_kids (node_at nodes number))) where
    further : value + 1 < length trees
    further = omega (arith, more, kids-long ds nodes frozen fits number low)

    rest-within : Within (tests_from trees first (value + 1) ∷ []) (tests_from trees first value ∷ [])
    rest-within = within-rest ds slot first stop trees is k.some k.end_is k.fit value further

    pub rest-fails : (t u : Shown) (r : Entry) (e : StoreFault) → MakesTree s t (node_tree ds nodes kid) (Ok r) → MakesTree t u (tests_from trees first (value + 1)) (Err e) → MakesTree s u (tests_from trees first value) (Err e)
    rest-fails t u r e m n = part-then kid-within m (part-fails e rest-within n)

    module _ (t u : Shown) (q r : Entry) (m : MakesTree s t (node_tree ds nodes kid) (Ok q)) (n : MakesTree t u (tests_from trees first (value + 1)) (Ok r)) where
      sizes : u.sizes ≡ s.sizes
      sizes = n.grows.sizes ∙ m.grows.sizes

      kid-now : u.tree q ≡ node_tree ds nodes kid
      kid-now = n.grows.trees q m.ok.knows ∙ m.ok.tree

      pub kid-known : u.knows q ≡ true
      kid-known = n.grows.knows q m.ok.knows

      pub test-level : first + value < levels_of (slots u.sizes)
      test-level = rw sizes (level-next ds slot first stop trees is k.some k.end_is k.fit value further)

      pub test-fits : CanTest (slots u.sizes) (first + value) (u.tree q) (u.tree r)
      test-fits = rw (sizes, kid-now, n.ok.tree) (subst (λ (x : Tree). CanTest ds (first + value) x (tests_from trees first (value + 1))) kid-is (can-next ds slot first stop trees is k.some k.end_is k.fit value further))

      pub test-then : (v : Shown) (result : Result Entry StoreFault) → MakesTree u v (join (first + value) (u.tree q) (u.tree r)) result → MakesTree s v (tests_from trees first value) result
      test-then v result w =
          let whole : join (first + value) (u.tree q) (u.tree r) ≡ tests_from trees first value =
          (λ i. join (first + value) (kid-now i) (n.ok.tree i)) ∙ sym (tests-next ds slot first stop trees is k.some k.end_is k.fit value further ∙ ap (λ (x : Tree). join (first + value) x (tests_from trees first (value + 1))) kid-is) in
          let last : MakesTree u v (tests_from trees first value) result = subst (λ (x : Tree). MakesTree u v x result) whole w in
          part-then kid-within m (part-then rest-within n last)

-- what was made
pub has-grows : (s t : Shown) (nodes : List (Node Leaf)) (made : List (Option Entry)) → Grows s t → HasMade s nodes made → HasMade t nodes made
has-grows s t nodes made g h = record {
  long = h.long;
  known = λ i r e. (let k = h.known i r e in record { knows = g.knows r k.knows; tree = g.trees r k.knows ∙ k.tree ∙ ap (λ (z : List ℕ). node_tree (slots z) nodes i) (sym g.sizes) });
}

pub has-set : (s : Shown) (nodes : List (Node Leaf)) (made : List (Option Entry)) (number : ℕ) (r : Entry) → number < length nodes → HasMade s nodes made → KnowsAs s r (node_tree (slots s.sizes) nodes number)
    → HasMade s nodes (set made number (Some r))
has-set s nodes made number r low h k = record {
  long = length-set made number (Some r) ∙ h.long;
  known = λ i q e. go (i == number) i q refl e;
}
  where
    go : (b : Bool) (i : ℕ) (q : Entry) → (i == number) ≡ b → slice_get (set made number (Some r)) i ≡ Some (Some q) → KnowsAs s q (node_tree (slots s.sizes) nodes i)
    go true i q z e =
        let same : i ≡ number = (Decides-eqb i number).0 z in
        let here : slice_get (set made number (Some r)) number ≡ Some (Some r) = slice_get-get_or (set made number (Some r)) number (Some r) (omega (arith, length-set made number (Some r), h.long)) ∙ ap Some (get_or-set_same made number (Some r) (Some r) (omega (arith, h.long))) in
        let is : slice_get (set made number (Some r)) number ≡ Some (Some q) = subst (λ (x : ℕ). slice_get (set made number (Some r)) x ≡ Some (Some q)) same e in
        let eq : r ≡ q = cc in
        subst (λ (x : ℕ). KnowsAs s q (node_tree (slots s.sizes) nodes x)) (sym same) (subst (λ (x : Entry). KnowsAs s x (node_tree (slots s.sizes) nodes number)) eq k)
    go false i q z e =
        let other : i ≢ number = λ p. true≢false (sym ((Decides-eqb i number).1 p) ∙ z) in
        let within : i < length made = omega (arith, slice_get_within (set made number (Some r)) i (Some q) e, length-set made number (Some r)) in
        let old : slice_get made i ≡ Some (Some q) = slice_get-get_or made i (Some q) within ∙ ap Some (sym (get_or-set_other made number i (Some r) (Some q) other) ∙ get_or_from_slice_get (set made number (Some r)) i (Some q) (Some q) e) in
        h.known i q old

-- the diagram of the last node
pub root-made : (s t : Shown) (o : IsSound s) (nodes : List (Node Leaf)) → IsFrozen nodes → FitsSizes (slots s.sizes) nodes → (result : Result Entry StoreFault)
    → MakesTree s t (node_tree (slots s.sizes) nodes (length nodes - 1)) result → MakesDiagram s t (mixed_function nodes) result
root-made s t o nodes frozen fits result m =
    let number = length nodes - 1 in
    let low : number < length nodes = omega (arith, frozen.some) in
    let suit = nodes-suit (slots s.sizes) nodes frozen fits (suc number) number (omega arith) low in
    let f = slot_tree-fits (slots s.sizes) 0 (kid_at (diagrams nodes) number) suit in
    let tree : IsTreeFor s (node_tree (slots s.sizes) nodes number) (mixed_function nodes) = record {
      reduced = f.0;
      whole = f.1;
      value = record { at = λ x y i j. slot_tree-value (slots s.sizes) 0 (kid_at (diagrams nodes) number) (point x y) suit (IsState-point s.sizes x y i j) };
    } in
    makes-diagram o tree m

-- the node at a place, as a list of nodes is seen
pub seen-at : {X : Type 0} (seen : X → Node Leaf) (xs : List X) (i : ℕ) (x : X) → i < length xs → x ≡ get_or xs i x → node_at (map seen xs) i ≡ seen x
seen-at seen xs i x h e = get_or-map seen xs i x (Node.leaf (Num (pos 0))) h ∙ ap seen (sym e)

pub seen-long : {X : Type 0} (seen : X → Node Leaf) (xs : List X) (i : ℕ) → i < length xs → i < length (map seen xs)
seen-long seen xs i h = omega (arith, length-map xs seen)

length-slots : (ds : List ℕ) → length (slots ds) ≡ 2 * length ds
length-slots [] = refl
length-slots (d ∷ ds) = let more : length (slots ds) ≡ 2 * length ds = length-slots ds in omega arith

pub slot-var : (sizes : List ℕ) (var : ℕ) (primed : Bool) → slot_of var primed < length (slots sizes) → var < length sizes
slot-var sizes var true h = omega (arith, length-slots sizes)
slot-var sizes var false h = omega (arith, length-slots sizes)

-- a branch of a list that fits the slots
pub record IsBranch (sizes : List ℕ) (nodes : List (Node Leaf)) (number var : ℕ) (primed : Bool) : Type 0 where
  pub var_in : var < length sizes
  pub slot : node_slot (node_at nodes number) ≡ slot_of var primed
  pub some : 0 < length (node_kids (node_at nodes number))

pub branch-is : (sizes : List ℕ) (nodes : List (Node Leaf)) (frozen : IsFrozen nodes) (fits : FitsSizes (slots sizes) nodes) (number var : ℕ) (primed : Bool) → number < length nodes
    → node_at nodes number ≡ Node.branch (slot_of var primed) (node_kids (node_at nodes number)) → IsBranch sizes nodes number var primed
branch-is sizes nodes frozen fits number var primed low e =
    let fit : FitsNode (slots sizes) (Node.branch (slot_of var primed) (node_kids (node_at nodes number))) = subst (FitsNode (slots sizes)) e (fits number (Node.leaf (Num (pos 0))) low) in
    let at : IsNodeAt nodes number (Node.branch (slot_of var primed) (node_kids (node_at nodes number))) = subst (IsNodeAt nodes number) e (frozen.each number (node_at nodes number) (slice_get-get_or nodes number (Node.leaf (Num (pos 0))) low)) in
    record { var_in = slot-var sizes var primed fit.0; slot = ap node_slot e; some = at.0 }

on-ok : {A E P : Type 0} (r : Result A E) → P → OnOk r P
on-ok (Ok a) p = p
on-ok (Err e) p = tt

pub has-after : {A E : Type 0} (s t : Shown) (nodes : List (Node Leaf)) (made : List (Option Entry)) (r : Result A E) → Grows s t → HasMade s nodes made → OnOk r (HasMade t nodes made)
has-after s t nodes made r g h = on-ok r (has-grows s t nodes made g h)

pub levels-few : (sizes : List ℕ) → IsLayout sizes → levels_of (slots sizes) ≤ 512
levels-few sizes h = omega (arith, levels_of-slots sizes, h.tests)
