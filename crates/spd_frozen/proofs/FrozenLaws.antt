-- The list of a function's reduced diagram: it is a diagram, fits its variables, and has the function's leaf at each state.
use Rattle.std.proofs.Common.{◌≡◌, ℕ, zero, suc, ◌-◌, ◌<◌, ◌≤◌, inl, inr, Bool, true, false, List, [], ◌∷◌, ◌++◌, length, map, take, drop, get_or, refl, ap, sym, ◌∙◌, subst, arith, length-append, append_assoc, append-nil, Some}
use Rattle.std.specs.Prelude.{All, Contains, slice_get, slice_index}
use Rattle.std.specs.List.{list_all}
use Rattle.std.proofs.lemmas.Bool.{and_parts}
use Rattle.std.proofs.lemmas.List.{length-map, get_or-map, get_or_at, get_or_append_left, get_or_push, length-take-le, take-append-drop}
use Rattle.std.proofs.lemmas.List.Elements.{All-head, All-tail, All-cons, All-nil, All-contains, All-map, All-weaker}
use Rattle.std.proofs.lemmas.Option.{slice_get-get_or, slice_get_within}
use Rattle.spd_model.specs.Numbers.{numbers_below}
use Rattle.spd_model.specs.Reduced.{Diagram, Subtrees, none, also, subtrees_of, Node, is_equal, choice_of, reduced, reduced_from, nodes_after, nodes_after_all, nodes_of, node_number, node_numbers, node_of}
use Rattle.spd_model.specs.States.{IsState}
use Rattle.spd_nodes.specs.Trees.{leaf_eq}
use Rattle.spd_nodes.specs.declared.leaf.Leaf.{Leaf}
use Rattle.spd_model.proofs.CallerLemmas.StateOrder.{length-IsState, value_below}
use Rattle.spd_frozen.specs.Frozen.{entry_at, frozen_of, HasKid, IsAfter, IsNodeAt, IsFrozen, diagrams, reached, reached_among, leaf_at}
use Rattle.spd_frozen.specs.Fits.{FitsNode, FitsSizes, HasLeaf, HasLeaves}
use Rattle.spd_frozen.specs.inner.Unique.{AreAmong, HasSubtreesAmong}
use Rattle.spd_frozen.proofs.Places.{D, is_equal-true, number-is, number-below, number-append, there-or-new, with_node-new}
use Rattle.spd_frozen.proofs.Completion.{AreInOrder, IsInherited, nodes_after-is, All-nodes_after_all, All-nodes_of}
use Rattle.spd_frozen.proofs.Reading.{nothing, diagrams-nodes}
use Rattle.spd_frozen.proofs.FollowLaws.{reached_among-at}
use Rattle.spd_model.proofs.CallerLemmas.Lists.{length-numbers_below, get_or-numbers_below, All-numbers_below}

-- how many subtrees there are
abbrev pub count : Subtrees Leaf → ℕ
count none = 0
count (also e es) = suc (count es)

-- A diagram over variables of these sizes from `var` on, with such leaves: variables rise, and a branch has one subtree for each
-- value of its variable.
abbrev mutual
  pub Suits : List ℕ → (Leaf → Type 0) → ℕ → D → Type 0
  Suits sizes P var (Diagram.leaf x) = P x
  Suits sizes P var (Diagram.branch w es) = (var ≤ w) × (w < length sizes) × (count es ≡ slice_index sizes w) × (0 < count es) × AllSuit sizes P (suc w) es

  pub AllSuit : List ℕ → (Leaf → Type 0) → ℕ → Subtrees Leaf → Type 0
  AllSuit sizes P var none = Unit {0}
  AllSuit sizes P var (also e es) = Suits sizes P var e × AllSuit sizes P var es

module _ (sizes : List ℕ) (P : Leaf → Type 0) where
  Suits-lower : (low var : ℕ) (d : D) → low ≤ var → Suits sizes P var d → Suits sizes P low d
  Suits-lower low var (Diagram.leaf x) le h = h
  Suits-lower low var (Diagram.branch w es) le h = (omega (arith, h.0), h.1, h.2, h.3, h.4)

  AllSuit-lower : (low var : ℕ) (es : Subtrees Leaf) → low ≤ var → AllSuit sizes P var es → AllSuit sizes P low es
  AllSuit-lower low var none le h = tt
  AllSuit-lower low var (also e es) le h = (Suits-lower low var e le h.0, AllSuit-lower low var es le h.1)

  inherited : (var : ℕ) → IsInherited (Suits sizes P var) (AllSuit sizes P var)
  inherited var = record {
    branch = λ w es h. AllSuit-lower var (suc w) es (omega (arith, h.0)) h.4;
    also = λ e es h. (h.0, h.1);
  }

  pub AllSuit-from : (var : ℕ) (ds : List D) → All (Suits sizes P var) ds → AllSuit sizes P var (subtrees_of ds)
  AllSuit-from var [] h = tt
  AllSuit-from var (d ∷ ds) h = (All-head (Suits sizes P var) d ds h, AllSuit-from var ds (All-tail (Suits sizes P var) d ds h))

pub count-subtrees_of : (ds : List D) → count (subtrees_of ds) ≡ length ds
count-subtrees_of [] = refl
count-subtrees_of (d ∷ ds) = omega (arith, count-subtrees_of ds)

-- a choice is its one subtree or the branch
choice-suits : (sizes : List ℕ) (P : Leaf → Type 0) (var : ℕ) (ds : List D) → 0 < length ds → var < length sizes → length ds ≡ slice_index sizes var
    → All (Suits sizes P (suc var)) ds → Suits sizes P var (choice_of leaf_eq var ds)
choice-suits sizes P var [] some within long h = absurd (omega arith)
choice-suits sizes P var (d ∷ ds) some within long h = go (list_all (is_equal leaf_eq d) ds) refl
  where
    go : (b : Bool) → list_all (is_equal leaf_eq d) ds ≡ b → Suits sizes P var (choice_of leaf_eq var (d ∷ ds))
    go true e = rw e (Suits-lower sizes P var (suc var) d (omega arith) (All-head (Suits sizes P (suc var)) d ds h))
    go false e =
        let n : count (subtrees_of (d ∷ ds)) ≡ length (d ∷ ds) = count-subtrees_of (d ∷ ds) in
        let is : Suits sizes P var (Diagram.branch var (subtrees_of (d ∷ ds))) =
        (omega arith, within, n ∙ long, omega arith, AllSuit-from sizes P (suc var) (d ∷ ds) h) in
        rw e is

-- all variables have a value
abbrev pub ArePositive : List ℕ → Type 0
ArePositive sizes = All (λ size. 0 < size) sizes

reduced-suits : (sizes front rest : List ℕ) (P : Leaf → Type 0) (var : ℕ) (f : List ℕ → Leaf) → sizes ≡ front ++ rest → var ≡ length front → ArePositive rest
    → ((s : List ℕ) → IsState rest s → P (f s)) → Suits sizes P var (reduced_from leaf_eq var rest f)
reduced-suits sizes front [] P var f e n some h = h [] tt
reduced-suits sizes front (size ∷ rest) P var f e n some h =
    let F : ℕ → D = λ v. reduced_from leaf_eq (suc var) rest (λ s. f (v ∷ s)) in
    let first : 0 < size = All-head (λ m. 0 < m) size rest some in
    let others : ArePositive rest = All-tail (λ m. 0 < m) size rest some in
    let long : length (map F (numbers_below size)) ≡ size = length-map (numbers_below size) F ∙ length-numbers_below size in
    let at-var : slice_index sizes var ≡ size = ap (λ (l : List ℕ). get_or l var 0) e ∙ get_or_at front size rest 0 var (sym n) in
    let within : var < length sizes = omega (arith, ap length e, length-append front (size ∷ rest), n) in
    choice-suits sizes P var (map F (numbers_below size)) (omega (arith, long, first)) within (long ∙ sym at-var)
    (All-map (Suits sizes P (suc var)) F (numbers_below size) (All-numbers_below (λ v. Suits sizes P (suc var) (F v)) size (λ v q. reduced-suits sizes (front ++ size ∷ []) rest P (suc var) (λ s. f (v ∷ s)) (e ∙ sym (append_assoc front (size ∷ []) rest))
    (omega (arith, n, length-append front (size ∷ []))) others (λ s k. h (v ∷ s) (q, k)))))

-- subtrees stand before their diagram
order-at : (before ds : List D) (i : ℕ) → AreInOrder before ds → i < length ds → HasSubtreesAmong (before ++ take i ds) (get_or ds i nothing)
order-at before [] i h q = absurd (omega arith)
order-at before (d ∷ ds) zero h q = subst (λ (l : List D). HasSubtreesAmong l d) (sym (append-nil before)) h.0
order-at before (d ∷ ds) (suc i) h q =
    subst (λ (l : List D). HasSubtreesAmong l (get_or ds i nothing)) (append_assoc before (d ∷ []) (take i ds)) (order-at (before ++ d ∷ []) ds i h.1 (omega arith))

length-node_numbers : (ds : List D) (es : Subtrees Leaf) → length (node_numbers leaf_eq ds es) ≡ count es
length-node_numbers ds none = refl
length-node_numbers ds (also e es) = omega (arith, length-node_numbers ds es)

-- the nodes of some diagrams
abbrev nodes : List D → List (Node Leaf)
nodes ds = map (node_of leaf_eq ds) ds

node-of-place : (ds : List D) (k : ℕ) → k < length ds → slice_get (nodes ds) k ≡ Some (node_of leaf_eq ds (get_or ds k nothing))
node-of-place ds k h =
    slice_get-get_or (nodes ds) k (node_of leaf_eq ds nothing) (omega (arith, length-map ds (node_of leaf_eq ds)))
    ∙ ap Some (get_or-map (node_of leaf_eq ds) ds k nothing (node_of leaf_eq ds nothing) h)

module _ (sizes : List ℕ) (P : Leaf → Type 0) where
  after-suits : (ds : List D) (v : ℕ) (d : D) → Suits sizes P (suc v) d → IsAfter v (Some (node_of leaf_eq ds d))
  after-suits ds v (Diagram.leaf x) h = tt
  after-suits ds v (Diagram.branch w es) h = omega (arith, h.0)

  -- the numbers of subtrees that stand in a front of a list
  kids-fit : (front rest : List D) (v : ℕ) (es : Subtrees Leaf) → AreAmong front es → AllSuit sizes P (suc v) es
      → All (λ k. (k < length front) × IsAfter v (slice_get (nodes (front ++ rest)) k)) (node_numbers leaf_eq (front ++ rest) es)
  kids-fit front rest v none h s = All-nil (λ k. (k < length front) × IsAfter v (slice_get (nodes (front ++ rest)) k))
  kids-fit front rest v (also e es) h s =
      let all = front ++ rest in
      let k = node_number leaf_eq all e in
      let Q : ℕ → Type 0 = λ j. (j < length front) × IsAfter v (slice_get (nodes all) j) in
      let same : k ≡ node_number leaf_eq front e = number-append front rest e h.0 in
      let low : k < length front = subst (λ (j : ℕ). j < length front) (sym same) (number-below front e h.0) in
      let stands : get_or all k nothing ≡ e = get_or_append_left front rest nothing k low ∙ ap (λ (j : ℕ). get_or front j nothing) same ∙ number-is front e nothing h.0 in
      let is : slice_get (nodes all) k ≡ Some (node_of leaf_eq all e) = node-of-place all k (omega (arith, length-append front rest)) ∙ ap (λ (d : D). Some (node_of leaf_eq all d)) stands in
      All-cons Q k (node_numbers leaf_eq all es) (low, subst (IsAfter v) (sym is) (after-suits all v e s.0)) (kids-fit front rest v es h.1 s.1)

  node-fits : (front rest : List D) (d : D) → HasSubtreesAmong front d → Suits sizes P 0 d → IsNodeAt (nodes (front ++ rest)) (length front) (node_of leaf_eq (front ++ rest) d)
  node-fits front rest (Diagram.leaf x) h s = tt
  node-fits front rest (Diagram.branch v es) h s = (omega (arith, length-node_numbers (front ++ rest) es, s.3), kids-fit front rest v es h s.4)

  is-frozen : (ds : List D) → 0 < length ds → AreInOrder [] ds → All (Suits sizes P 0) ds → IsFrozen (nodes ds)
  is-frozen ds some order suits = record {
    some = omega (arith, length-map ds (node_of leaf_eq ds));
    each = λ i n e. (
        let within : i < length ds = omega (arith, slice_get_within (nodes ds) i n e, length-map ds (node_of leaf_eq ds)) in
        let d = get_or ds i nothing in
        let is : n ≡ node_of leaf_eq ds d = cc (node-of-place ds i within) in
        let split : take i ds ++ drop i ds ≡ ds = take-append-drop i ds in
        let long : length (take i ds) ≡ i = length-take-le i ds (omega arith) in
        let R : List D → ℕ → Type 0 = λ l j. IsNodeAt (nodes l) j (node_of leaf_eq l d) in
        let fits : R (take i ds ++ drop i ds) (length (take i ds)) = node-fits (take i ds) (drop i ds) d (order-at [] ds i order within) (suits i nothing within) in
        let fits' : R ds i = subst (λ (l : List D). R l i) split (subst (R (take i ds ++ drop i ds)) long fits) in
        subst (IsNodeAt (nodes ds) i) (sym is) fits'
        );
  }

  fits-suits : (ds : List D) (d : D) → Suits sizes P 0 d → FitsNode sizes (node_of leaf_eq ds d)
  fits-suits ds (Diagram.leaf x) h = tt
  fits-suits ds (Diagram.branch v es) h = (h.1, length-node_numbers ds es ∙ h.2)

  leaf-suits : (ds : List D) (d : D) → Suits sizes P 0 d → HasLeaf P (node_of leaf_eq ds d)
  leaf-suits ds (Diagram.leaf x) h = h
  leaf-suits ds (Diagram.branch v es) h = tt

  -- the root is the last node: no branch is among the nodes of its subtrees
  root-new : (v : ℕ) (es : Subtrees Leaf) → Suits sizes P 0 (Diagram.branch v es) → ¬ Contains (nodes_after_all leaf_eq [] es) (Diagram.branch v es)
  root-new v es h c =
      let all = All-nodes_after_all (Suits sizes P (suc v)) (AllSuit sizes P (suc v)) (inherited sizes P (suc v)) [] es (All-nil (Suits sizes P (suc v))) h.4 in
      let own = All-contains (Suits sizes P (suc v)) (nodes_after_all leaf_eq [] es) (Diagram.branch v es) all c in
      omega (arith, own.0)

  root-last : (d : D) → Suits sizes P 0 d → (front : List D) × (nodes_of leaf_eq d ≡ front ++ d ∷ [])
  root-last (Diagram.leaf x) h = ([], refl)
  root-last (Diagram.branch v es) h = elim (there-or-new (nodes_after_all leaf_eq [] es) (Diagram.branch v es)) [
    | inl c ↦ absurd (root-new v es h c)
    | inr n ↦ (nodes_after_all leaf_eq [] es, with_node-new (nodes_after_all leaf_eq [] es) (Diagram.branch v es) n)
  ]

-- the order of a function's nodes
order-of : (d : D) → AreInOrder [] (nodes_of leaf_eq d)
order-of d = let g = (nodes_after-is [] d).goes_on in subst (AreInOrder []) (sym g.is) g.order

-- a list of equal diagrams
all-equal-at : (d : D) (ds : List D) (v : ℕ) → list_all (is_equal leaf_eq d) ds ≡ true → v < length ds → get_or ds v nothing ≡ d
all-equal-at d [] v h q = absurd (omega arith)
all-equal-at d (e ∷ ds) zero h q = sym (is_equal-true d e (and_parts (is_equal leaf_eq d e) (list_all (is_equal leaf_eq d) ds) h).0)
all-equal-at d (e ∷ ds) (suc v) h q = all-equal-at d ds v (and_parts (is_equal leaf_eq d e) (list_all (is_equal leaf_eq d) ds) h).1 (omega arith)

pub equal-at : (d : D) (ds : List D) (v : ℕ) → list_all (is_equal leaf_eq d) ds ≡ true → v < length (d ∷ ds) → get_or (d ∷ ds) v nothing ≡ d
equal-at d ds zero h q = refl
equal-at d ds (suc v) h q = all-equal-at d ds v h (omega arith)

-- a choice has the leaf of the subtree for the state's value
reached-choice : (s : List ℕ) (var v : ℕ) (ds : List D) → slice_index s var ≡ v → v < length ds → reached s (choice_of leaf_eq var ds) ≡ reached s (get_or ds v nothing)
reached-choice s var v [] e h = absurd (omega arith)
reached-choice s var v (d ∷ ds) e h = go (list_all (is_equal leaf_eq d) ds) refl
  where
    go : (b : Bool) → list_all (is_equal leaf_eq d) ds ≡ b → reached s (choice_of leaf_eq var (d ∷ ds)) ≡ reached s (get_or (d ∷ ds) v nothing)
    go true all = rw all (ap (reached s) (sym (equal-at d ds v all h)))
    go false all = rw all (ap (λ (w : ℕ). reached_among s w (subtrees_of (d ∷ ds))) e ∙ reached_among-at s v (d ∷ ds) h)

-- the reduced diagram of a function has the function's leaf at each state
reached-reduced : (s front rest t : List ℕ) (var : ℕ) (f : List ℕ → Leaf) → s ≡ front ++ t → var ≡ length front → IsState rest t → reached s (reduced_from leaf_eq var rest f) ≡ f t
reached-reduced s front [] [] var f e n h = refl
reached-reduced s front [] (v ∷ t) var f e n h = absurd h
reached-reduced s front (size ∷ rest) [] var f e n h = absurd h
reached-reduced s front (size ∷ rest) (v ∷ t) var f e n h =
    let F : ℕ → D = λ w. reduced_from leaf_eq (suc var) rest (λ u. f (w ∷ u)) in
    let at-var : slice_index s var ≡ v = ap (λ (l : List ℕ). get_or l var 0) e ∙ get_or_at front v t 0 var (sym n) in
    let within : v < length (map F (numbers_below size)) = omega (arith, length-map (numbers_below size) F, length-numbers_below size, h.0) in
    let kid : get_or (map F (numbers_below size)) v nothing ≡ F v = get_or-map F (numbers_below size) v 0 nothing (omega (arith, length-numbers_below size, h.0)) ∙ ap F (get_or-numbers_below size v h.0) in
    reached-choice s var v (map F (numbers_below size)) at-var within ∙ ap (reached s) kid
    ∙ reached-reduced s (front ++ v ∷ []) rest t (suc var) (λ u. f (v ∷ u)) (e ∙ sym (append_assoc front (v ∷ []) t)) (omega (arith, n, length-append front (v ∷ []))) h.1

-- functions with one reduced diagram agree at all states
pub reduced-same : (var : ℕ) (sizes : List ℕ) (f g : List ℕ → Leaf) → reduced_from leaf_eq var sizes f ≡ reduced_from leaf_eq var sizes g → (s : List ℕ) → IsState sizes s → f s ≡ g s
reduced-same var sizes f g e s h =
    let front = numbers_below var in
    let long : var ≡ length front = sym (length-numbers_below var) in
    sym (reached-reduced (front ++ s) front sizes s var f refl long h) ∙ ap (reached (front ++ s)) e ∙ reached-reduced (front ++ s) front sizes s var g refl long h

-- what the list of a function is
module _ (sizes : List ℕ) (P : Leaf → Type 0) (f : List ℕ → Leaf) (some : ArePositive sizes) (leaves : (s : List ℕ) → IsState sizes s → P (f s)) where
  suits : Suits sizes P 0 (reduced leaf_eq sizes f)
  suits = reduced-suits sizes [] sizes P 0 f refl refl some leaves

  all-suit : All (Suits sizes P 0) (nodes_of leaf_eq (reduced leaf_eq sizes f))
  all-suit = All-nodes_of (Suits sizes P 0) (AllSuit sizes P 0) (inherited sizes P 0) (reduced leaf_eq sizes f) suits

  some-nodes : 0 < length (nodes_of leaf_eq (reduced leaf_eq sizes f))
  some-nodes = let last = root-last sizes P (reduced leaf_eq sizes f) suits in omega (arith, ap length last.1, length-append last.0 (reduced leaf_eq sizes f ∷ []))

  frozen-is-with : IsFrozen (frozen_of sizes f)
  frozen-is-with = is-frozen sizes P (nodes_of leaf_eq (reduced leaf_eq sizes f)) some-nodes (order-of (reduced leaf_eq sizes f)) all-suit

  frozen-fits-with : FitsSizes sizes (frozen_of sizes f)
  frozen-fits-with =
      let ds = nodes_of leaf_eq (reduced leaf_eq sizes f) in
      All-map (FitsNode sizes) (node_of leaf_eq ds) ds (All-weaker (Suits sizes P 0) (λ d. FitsNode sizes (node_of leaf_eq ds d)) (fits-suits sizes P ds) ds all-suit)

  -- its leaves are the function's
  pub frozen-leaves : HasLeaves P (frozen_of sizes f)
  frozen-leaves =
      let ds = nodes_of leaf_eq (reduced leaf_eq sizes f) in
      All-map (HasLeaf P) (node_of leaf_eq ds) ds (All-weaker (Suits sizes P 0) (λ d. HasLeaf P (node_of leaf_eq ds d)) (leaf-suits sizes P ds) ds all-suit)

  root-at : (s : List ℕ) → leaf_at (frozen_of sizes f) s ≡ reached s (reduced leaf_eq sizes f)
  root-at s =
      let d = reduced leaf_eq sizes f in
      let ds = nodes_of leaf_eq d in
      let last = root-last sizes P d suits in
      let read : diagrams (nodes ds) ≡ ds = diagrams-nodes [] ds (order-of d) in
      let long : length last.0 ≡ length (nodes ds) - 1 = omega (arith, length-map ds (node_of leaf_eq ds), ap length last.1, length-append last.0 (d ∷ [])) in
      ap (reached s) (ap (λ (l : List D). get_or l (length (nodes ds) - 1) nothing) (read ∙ last.1) ∙ get_or_push last.0 d nothing (length (nodes ds) - 1) long)

module _ (sizes : List ℕ) (f : List ℕ → Leaf) (some : ArePositive sizes) where
  any-leaf : (s : List ℕ) → IsState sizes s → Unit {0}
  any-leaf s h = tt

  -- the list of a function is a diagram
  pub frozen-is : IsFrozen (frozen_of sizes f)
  frozen-is = frozen-is-with sizes (λ x. Unit {0}) f some any-leaf

  -- it fits the function's variables
  pub frozen-fits : FitsSizes sizes (frozen_of sizes f)
  frozen-fits = frozen-fits-with sizes (λ x. Unit {0}) f some any-leaf

  -- and has the function's leaf at each state
  pub frozen-leaf_at : (s : List ℕ) → IsState sizes s → leaf_at (frozen_of sizes f) s ≡ f s
  frozen-leaf_at s h = root-at sizes (λ x. Unit {0}) f some any-leaf s ∙ reached-reduced s [] sizes s 0 f refl refl h

-- the nodes that building a table's diagram completes are its list
pub table-list : (all : List (Node Leaf)) (ds : List D) (start : List (Node Leaf)) (sz sz' : List ℕ) (leaves : List Leaf) → all ≡ map (node_of leaf_eq ds) ds
    → ds ≡ nodes_after leaf_eq (diagrams start) (reduced_from leaf_eq 0 sz (entry_at sz leaves)) → start ≡ [] → sz ≡ sz' → all ≡ frozen_of sz' (entry_at sz' leaves)
table-list all ds start sz sz' leaves e n empty same =
    e ∙ ap (λ (l : List D). map (node_of leaf_eq l) l) (n ∙ ap (λ (l : List (Node Leaf)). nodes_after leaf_eq (diagrams l) (reduced_from leaf_eq 0 sz (entry_at sz leaves))) empty)
    ∙ ap (λ (l : List ℕ). frozen_of l (entry_at l leaves)) same

-- a diagram that fits some variables can be followed at each of their states
pub fits-kids : (sizes s : List ℕ) (all : List (Node Leaf)) → FitsSizes sizes all → IsState sizes s → All (HasKid s) all
fits-kids sizes s all h state = All-weaker (FitsNode sizes) (HasKid s) kid all h
  where
    kid : (n : Node Leaf) → FitsNode sizes n → HasKid s n
    kid (Node.leaf x) f = tt
    kid (Node.branch v kids) f = (
      omega (arith, length-IsState sizes s state, f.0),
      subst (λ (m : ℕ). slice_index s v < m) (sym f.1) (value_below sizes s state v f.0),
    )
