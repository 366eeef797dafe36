-- What all leaves of a list of nodes have, the leaf at each state has, also where the list isn't reduced.
use Rattle.std.proofs.Common.{◌≡◌, ℕ, zero, suc, ◌+◌, ◌-◌, ◌<◌, List, [], ◌∷◌, ◌++◌, length, length-append, map, get_or, slice_index, slice_get, Some, refl, sym, ◌∙◌, ap, subst, arith, All, pos, inl, inr}
use Rattle.std.proofs.lemmas.Bool.{cases_lt}
use Rattle.std.proofs.lemmas.List.{get_or-map, length-map, get_or_append_left, get_or-append-add}
use Rattle.std.proofs.lemmas.List.Elements.{All-head, All-tail, All-weaker}
use Rattle.spd_model.specs.Reduced.{Diagram, subtrees_of, Node}
use Rattle.spd_model.specs.States.{IsState}
use Rattle.spd_nodes.specs.declared.leaf.Leaf.{Leaf}
use Rattle.spd_nodes.specs.declared.leaf.Leaf.TheVariants.{Num}
use Rattle.spd_frozen.specs.Fits.{FitsSizes, HasLeaf, HasLeaves}
use Rattle.spd_frozen.specs.Frozen.{IsAfter, IsNodeAt, IsFrozen, HasKid, diagram_of, diagrams_after, leaf_at, reached, reached_among}
use Rattle.spd_frozen.proofs.CallerLemmas.{fits-kids}

abbrev none_there : Diagram Leaf
none_there = Diagram.leaf (Num (pos 0))

-- a subtree by its place
reached-place : (s : List ℕ) (v : ℕ) (ds : List (Diagram Leaf)) → v < length ds → reached_among s v (subtrees_of ds) ≡ reached s (get_or ds v none_there)
reached-place s v [] h = absurd (omega (arith, h))
reached-place s zero (d ∷ ds) h = refl
reached-place s (suc v) (d ∷ ds) h = reached-place s v ds (omega (arith, h))

module _ (P : Leaf → Type 0) (s : List ℕ) where
  -- a node has a leaf with the property, or a kid for the state's value among the first ones
  abbrev Leads : ℕ → Node Leaf → Type 0
  Leads b (Node.leaf x) = P x
  Leads b (Node.branch var kids) = (slice_index s var < length kids) × All (λ k. k < b) kids

  abbrev LeadFrom : ℕ → List (Node Leaf) → Type 0
  LeadFrom b [] = Unit {0}
  LeadFrom b (n ∷ ns) = Leads b n × LeadFrom (suc b) ns

  abbrev Good : List (Diagram Leaf) → Type 0
  Good ds = (k : ℕ) → k < length ds → P (reached s (get_or ds k none_there))

  good-one : (before : List (Diagram Leaf)) (n : Node Leaf) → Good before → Leads (length before) n → P (reached s (diagram_of before n))
  good-one before (Node.leaf x) good leads = leads
  good-one before (Node.branch var kids) good leads =
      let ds : List (Diagram Leaf) = map (λ k. get_or before k none_there) kids in
      let v : ℕ = slice_index s var in
      let near : v < length kids = leads.0 in
      let kid : ℕ = get_or kids v 0 in
      let is : reached_among s v (subtrees_of ds) ≡ reached s (get_or before kid none_there) =
      reached-place s v ds (omega (arith, near, length-map kids (λ k. get_or before k none_there)))
      ∙ ap (reached s) (get_or-map (λ k. get_or before k none_there) kids v 0 none_there near) in
      subst P (sym is) (good kid (leads.1 v 0 near))

  good-push : (before : List (Diagram Leaf)) (d : Diagram Leaf) → Good before → P (reached s d) → Good (before ++ d ∷ [])
  good-push before d good here k near = elim (cases_lt k (length before)) [
    | inl b ↦ subst (λ e. P (reached s e)) (sym (get_or_append_left before (d ∷ []) none_there k b)) (good k b)
    | inr a ↦
        let e : length before + 0 ≡ k = omega (arith, a, near, length-append before (d ∷ [])) in
        subst (λ j. P (reached s (get_or (before ++ d ∷ []) j none_there))) e
        (subst (λ x. P (reached s x)) (sym (get_or-append-add before (d ∷ []) 0 none_there)) here)
  ]

  good-all : (before : List (Diagram Leaf)) (nodes : List (Node Leaf)) (b : ℕ) → b ≡ length before → Good before → LeadFrom b nodes → Good (diagrams_after before nodes)
  good-all before [] b long good leads = good
  good-all before (n ∷ ns) b long good leads =
      let own : Leads (length before) n = subst (λ j. Leads j n) long leads.0 in
      good-all (before ++ diagram_of before n ∷ []) ns (suc b) (omega (arith, long, length-append before (diagram_of before n ∷ [])))
      (good-push before (diagram_of before n) good (good-one before n good own)) leads.1

long-after : (before : List (Diagram Leaf)) (nodes : List (Node Leaf)) → length (diagrams_after before nodes) ≡ length before + length nodes
long-after before [] = omega arith
long-after before (n ∷ ns) = omega (arith, long-after (before ++ diagram_of before n ∷ []) ns, length-append before (diagram_of before n ∷ []))

module _ (P : Leaf → Type 0) (sizes s : List ℕ) (state : IsState sizes s) where
  lead-one : (nodes : List (Node Leaf)) (i : ℕ) (n : Node Leaf) → IsNodeAt nodes i n → HasKid s n → HasLeaf P n → Leads P s i n
  lead-one nodes i (Node.leaf x) at kid leaf = leaf
  lead-one nodes i (Node.branch var kids) at kid leaf = (kid.1, All-weaker (λ k. (k < i) × IsAfter var (slice_get nodes k)) (λ k. k < i) (λ k p. p.0) kids at.1)

  lead-all : (nodes : List (Node Leaf)) (b : ℕ) (ns : List (Node Leaf)) → ((i : ℕ) (n : Node Leaf) → slice_get ns i ≡ Some n → IsNodeAt nodes (b + i) n) → All (HasKid s) ns → HasLeaves P ns → LeadFrom P s b ns
  lead-all nodes b [] at kids leaves = tt
  lead-all nodes b (n ∷ ns) at kids leaves = (
    lead-one nodes b n (subst (λ k. IsNodeAt nodes k n) (omega arith) (at 0 n refl)) (All-head (HasKid s) n ns kids) (All-head (HasLeaf P) n ns leaves),
    lead-all nodes (suc b) ns (λ i x e. subst (λ k. IsNodeAt nodes k x) (omega arith) (at (suc i) x e)) (All-tail (HasKid s) n ns kids) (All-tail (HasLeaf P) n ns leaves),
  )

  -- where all leaves of a list of nodes have a property, the list has a leaf with it at each state
  pub leaf-has : (nodes : List (Node Leaf)) → IsFrozen nodes → FitsSizes sizes nodes → HasLeaves P nodes → P (leaf_at nodes s)
  leaf-has nodes frozen fits leaves =
      let lead : LeadFrom P s 0 nodes = lead-all nodes 0 nodes (λ i n e. subst (λ k. IsNodeAt nodes k n) (omega arith) (frozen.each i n e)) (fits-kids sizes s nodes fits state) leaves in
      good-all P s [] nodes 0 refl (λ k near. absurd (omega (arith, near))) lead (length nodes - 1) (omega (arith, frozen.some, long-after [] nodes))
