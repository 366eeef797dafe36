-- What freezing keeps of a forest, node after node.
use Rattle.std.proofs.Common.{◌≡◌, ℕ, ◌+◌, ◌<◌, ◌⊎◌, inl, inr, ◌==◌, Bool, true, false, not, List, [], ◌∷◌, ◌++◌, length, get_or, Some, slice_get, refl, sym, ◌∙◌, ap, subst, arith, true≢false, if◌then◌else◌}
use Rattle.std.specs.Prelude.{Contains, position, Result, IfOk}
use Rattle.std.proofs.lemmas.Result.{IfOk-weaker}
use Rattle.std.specs.List.{list_any, position_or_len}
use Rattle.std.proofs.lemmas.Bool.Decides.{Decides-eqb}
use Rattle.std.proofs.lemmas.List.{get_or-map, length-map, map-append}
use Rattle.std.proofs.lemmas.List.Elements.{All-get_or, All-push}
use Rattle.std.proofs.lemmas.List.Folds.{list_any_at}
use Rattle.std.proofs.lemmas.List.Quantifiers.{position-Some}
use Rattle.std.proofs.lemmas.List.Sums.{position_or_len_is}
use Rattle.std.proofs.lemmas.Option.{get_or_from_slice_get, slice_get_within}
use Rattle.spd_cons_core.specs.declared.key.Entry.{Entry}
use Rattle.spd_model.specs.Reduced.{Diagram, Node, with_node, nodes_after, nodes_after_all, node_number}
use Rattle.spd_nodes.specs.declared.leaf.Leaf.{Leaf}
use Rattle.spd_nodes.specs.Levels.{slots}
use Rattle.spd_nodes.specs.Trees.{leaf_eq, Ends}
use Rattle.spd_nodes.specs.States.{plain_part, primed_part}
use Rattle.spd_nodes.specs.Shown.{Shown, IsSound, meaning}
use Rattle.spd_nodes.proofs.CallerLemmas.{positive-slots, test_tree-function_of}
use Rattle.spd_frozen.specs.Frozen.{diagrams}
use Rattle.spd_frozen.specs.inner.Unique.{AreApart, IsClosed}
use Rattle.spd_frozen.specs.inner.Completed.{slot_diagram, IsRoot, HoldsNodes, kids_of, IsCompleted, IsNext, AddsNode}
use Rattle.spd_frozen.proofs.Places.{D, IsNew, there-or-new, with_node-there, with_node-new, number-push}
use Rattle.spd_frozen.proofs.Completion.{with_node-is, nodes_after-there}
use Rattle.spd_frozen.proofs.Reading.{nothing, diagrams_after-push}
use Rattle.spd_frozen.proofs.UniqueLaws.{KidsFirst-push, HasKidsBelow-more, AreApart-push}
use Rattle.spd_frozen.proofs.TreeDiagrams.{tree_diagram, diagram-tree_of, diagram-leaf, diagrams-apart}

module _ (s : Shown) (o : IsSound s) where
  -- the diagram of an entry's function is read from its tree
  pub slot_diagram-is : (r : Entry) → IsRoot s r → slot_diagram s r ≡ tree_diagram (slots s.sizes) 0 0 (s.tree r)
  slot_diagram-is r h =
      let positive = positive-slots s.sizes o.layout.values in
      sym (diagram-tree_of (slots s.sizes) 0 0 (λ p. meaning s r (plain_part p) (primed_part p)) positive)
      ∙ ap (tree_diagram (slots s.sizes) 0 0) (test_tree-function_of s.sizes positive (s.tree r) (o.reduced r h.0) h.1)

  pub leaf-diagram : (r : Entry) (a : Leaf) → IsRoot s r → s.tree r ≡ Ends a → slot_diagram s r ≡ Diagram.leaf a
  leaf-diagram r a h e = slot_diagram-is r h ∙ ap (tree_diagram (slots s.sizes) 0 0) e ∙ diagram-leaf (slots s.sizes) 0 0 a

  -- entries with equal diagrams are equal
  entries-apart : (r q : Entry) → IsRoot s r → IsRoot s q → slot_diagram s r ≡ slot_diagram s q → r ≡ q
  entries-apart r q h k e =
      o.once r q h.0 k.0 (diagrams-apart (slots s.sizes) (s.tree r) (s.tree q) (positive-slots s.sizes o.layout.values) (o.reduced r h.0) h.1 (o.reduced q k.0) k.1 (sym (slot_diagram-is r h) ∙ e ∙ slot_diagram-is q k))

  module _ (refs : List Entry) (nodes : List (Node Leaf)) (holds : HoldsNodes s refs nodes) where
    long : length (diagrams nodes) ≡ length refs
    long = ap length holds.read ∙ length-map refs (slot_diagram s)

    -- the diagram of an entry that is there
    diagram-there : (i : ℕ) (r : Entry) → i < length refs → get_or refs i r ≡ r → (Contains (diagrams nodes) (slot_diagram s r)) × (i ≡ node_number leaf_eq (diagrams nodes) (slot_diagram s r))
    diagram-there i r low at =
        let low' : i < length (diagrams nodes) = omega (arith, long) in
        let stands : (e : D) → get_or (diagrams nodes) i e ≡ slot_diagram s r =
        λ e. ap (λ (l : List D). get_or l i e) holds.read ∙ get_or-map (slot_diagram s) refs i r e low ∙ ap (slot_diagram s) at in
        ((i, low', stands (slot_diagram s r)), sym (ap (node_number leaf_eq (diagrams nodes)) (sym (stands nothing)) ∙ holds.table.apart i low'))

    -- a diagram that is there needs no completing
    pub found : (i : ℕ) (r : Entry) → i < length refs → get_or refs i r ≡ r → IsCompleted s nodes refs nodes (slot_diagram s r) i
    found i r low at =
        let there = diagram-there i r low at in
        record { holds = holds; nodes_are = sym (nodes_after-there (diagrams nodes) (slot_diagram s r) holds.closed there.0); number_is = there.1 }

    new-diagram : (r : Entry) → IsRoot s r → ¬ Contains refs r → IsNew (diagrams nodes) (slot_diagram s r)
    new-diagram r root absent = elim (there-or-new (diagrams nodes) (slot_diagram s r)) [
      | inr n ↦ n
      | inl c ↦ (let low : c.0 < length refs = omega (arith, c.1, long) in
          let q = get_or refs c.0 r in
          let same : slot_diagram s q ≡ slot_diagram s r = sym (get_or-map (slot_diagram s) refs c.0 r (slot_diagram s r) low) ∙ ap (λ (l : List D). get_or l c.0 (slot_diagram s r)) (sym holds.read) ∙ c.2 in
          let is : q ≡ r = entries-apart q r (All-get_or (IsRoot s) refs c.0 r low holds.roots) root same in
          absurd (absent (c.0, low, is)))
    ]

  rooted : (d : D) (before : List D) → nodes_after leaf_eq before d ≡ with_node leaf_eq (nodes_after_all leaf_eq before (kids_of d)) d
  rooted (Diagram.leaf x) before = refl
  rooted (Diagram.branch v es) before = refl

  -- the node of a diagram whose other nodes are there
  pub added : (old : List (Node Leaf)) (refs new_refs : List Entry) (nodes new_nodes : List (Node Leaf)) (r : Entry) (node : Node Leaf) (place : ℕ)
      → IsRoot s r → IsNext s old refs nodes (slot_diagram s r) node → AddsNode refs new_refs nodes new_nodes r node place → IsCompleted s old new_refs new_nodes (slot_diagram s r) place
  added old refs new_refs nodes new_nodes r node place root next (inl same) =
      let d = slot_diagram s r in
      let low : place < length refs = slice_get_within refs place r same.2 in
      let there = diagram-there refs nodes next.holds place r low (get_or_from_slice_get refs place r r same.2) in
      let done : IsCompleted s old refs nodes d place = record {
        holds = next.holds;
        nodes_are = sym (with_node-there (diagrams nodes) d there.0) ∙ ap (λ (l : List D). with_node leaf_eq l d) next.nodes_are ∙ sym (rooted d (diagrams old));
        number_is = there.1;
      } in
      subst (λ (l : List (Node Leaf)). IsCompleted s old new_refs l d place) (sym same.1) (subst (λ (l : List Entry). IsCompleted s old l nodes d place) (sym same.0) done)
  added old refs new_refs nodes new_nodes r node place root next (inr new) =
      let d = slot_diagram s r in
      let holds = next.holds in
      let ds = diagrams nodes in
      let fresh : IsNew ds d = new-diagram refs nodes holds r root new.3 in
      let read : diagrams (nodes ++ node ∷ []) ≡ ds ++ d ∷ [] = diagrams_after-push [] nodes node ∙ ap (λ (e : D). ds ++ e ∷ []) next.stands in
      let with' : with_node leaf_eq ds d ≡ ds ++ d ∷ [] = with_node-new ds d fresh in
      let more : HoldsNodes s (refs ++ r ∷ []) (nodes ++ node ∷ []) = record {
        roots = All-push (IsRoot s) refs r holds.roots root;
        read = read ∙ ap (λ (l : List D). l ++ d ∷ []) holds.read ∙ sym (map-append (slot_diagram s) refs (r ∷ []));
        table = record {
          kids_first = KidsFirst-push 0 nodes node holds.table.kids_first (HasKidsBelow-more (length nodes) (0 + length nodes) node (omega arith) next.below);
          apart = subst AreApart (sym read) (AreApart-push ds d holds.table.apart fresh);
        };
        closed = subst IsClosed (with' ∙ sym read) ((with_node-is ds d next.among).closed holds.closed);
      } in
      let done : IsCompleted s old (refs ++ r ∷ []) (nodes ++ node ∷ []) d place = record {
        holds = more;
        nodes_are = read ∙ sym with' ∙ ap (λ (l : List D). with_node leaf_eq l d) next.nodes_are ∙ sym (rooted d (diagrams old));
        number_is = new.2 ∙ sym (long refs nodes holds) ∙ sym (number-push ds d fresh) ∙ ap (λ (l : List D). node_number leaf_eq l d) (sym read);
      } in
      subst (λ (l : List (Node Leaf)). IsCompleted s old new_refs l d place) (sym new.1) (subst (λ (l : List Entry). IsCompleted s old l (nodes ++ node ∷ []) d place) (sym new.0) done)

  -- a leaf has no other nodes
  pub leaf-next : (refs : List Entry) (nodes : List (Node Leaf)) (r : Entry) (a : Leaf) → HoldsNodes s refs nodes → IsRoot s r → s.tree r ≡ Ends a → IsNext s nodes refs nodes (slot_diagram s r) (Node.leaf a)
  leaf-next refs nodes r a holds root e =
      subst (λ (d : D). IsNext s nodes refs nodes d (Node.leaf a)) (sym (leaf-diagram r a root e)) (record { holds = holds; nodes_are = refl; below = tt; among = tt; stands = refl })

  -- the same, as calls tell it
  pub add-completes : {E : Type 0} (old : List (Node Leaf)) (refs new_refs : List Entry) (nodes new_nodes : List (Node Leaf)) (r : Entry) (node : Node Leaf) (result : Result ℕ E)
      → IsRoot s r → IsNext s old refs nodes (slot_diagram s r) node → IfOk result (λ place. AddsNode refs new_refs nodes new_nodes r node place)
      → IfOk result (λ place. IsCompleted s old new_refs new_nodes (slot_diagram s r) place)
  add-completes old refs new_refs nodes new_nodes r node result root next h =
      IfOk-weaker result (λ place. AddsNode refs new_refs nodes new_nodes r node place) (λ place. IsCompleted s old new_refs new_nodes (slot_diagram s r) place)
      (λ place a. added old refs new_refs nodes new_nodes r node place root next a) h

-- nothing yet
pub holds-none : (s : Shown) → HoldsNodes s [] []
holds-none s = record { roots = λ k d h. absurd (omega arith); read = refl; table = record { kids_first = tt; apart = λ k h. absurd (omega arith) }; closed = λ k d h. absurd (omega arith) }

abbrev same_entry : Entry → Entry → Bool
same_entry a b = a.0 == b.0

entry-true : (a b : Entry) → same_entry a b ≡ true → a ≡ b
entry-true a b e = let h : a.0 ≡ b.0 = (Decides-eqb a.0 b.0).0 e in λ i. record { 0 = h i }

-- what a look-up of an entry says
pub position-entry : (refs : List Entry) (r : Entry) (i : ℕ) → position (same_entry r) refs ≡ Some i → (i < length refs) × (get_or refs i r ≡ r)
position-entry refs r i e = let p = position-Some (same_entry r) refs i r e in (p.0, sym (entry-true r (get_or refs i r) p.1))

-- what an insertion of an entry says
pub record Inserted (refs new_refs : List Entry) (r : Entry) (place : ℕ) (b : Bool) : Type 0 where
  pub there : b ≡ false → (new_refs ≡ refs) × (slice_get refs place ≡ Some r)
  pub new : b ≡ true → (new_refs ≡ refs ++ r ∷ []) × (place ≡ length refs) × ¬ Contains refs r

pub inserted : (refs new_refs : List Entry) (r k : Entry) (place : ℕ) (b : Bool) → b ≡ not (list_any (same_entry r) refs) → new_refs ≡ (if list_any (same_entry r) refs then refs else refs ++ r ∷ [])
    → place ≡ position_or_len (same_entry r) refs → slice_get new_refs place ≡ Some k → same_entry r k ≡ true → Inserted refs new_refs r place b
inserted refs new_refs r k place b e n p at is = go (list_any (same_entry r) refs) refl
  where
    absent : list_any (same_entry r) refs ≡ false → ¬ Contains refs r
    absent h c = true≢false (sym (list_any_at (same_entry r) refs c.0 r c.1 (let q : r.0 ≡ (get_or refs c.0 r).0 = ap (λ (x : Entry). x.0) (sym c.2) in (Decides-eqb r.0 (get_or refs c.0 r).0).1 q)) ∙ h)

    no-match : list_any (same_entry r) refs ≡ false → (i : ℕ) → i < length refs → same_entry r (get_or refs i r) ≡ false
    no-match h i q = at' (same_entry r (get_or refs i r)) refl
      where
        at' : (z : Bool) → same_entry r (get_or refs i r) ≡ z → z ≡ false
        at' true f = absurd (true≢false (sym (list_any_at (same_entry r) refs i r q f) ∙ h))
        at' false f = refl

    go : (z : Bool) → list_any (same_entry r) refs ≡ z → Inserted refs new_refs r place b
    go true h =
        let same : new_refs ≡ refs = rw h at n in
        let no : b ≡ false = e ∙ ap not h in
        record {
          there = λ f. (same, subst (λ (l : List Entry). slice_get l place ≡ Some r) same (at ∙ ap Some (sym (entry-true r k is))));
          new = λ t. absurd (true≢false (sym t ∙ no));
        }
    go false h =
        let more : new_refs ≡ refs ++ r ∷ [] = rw h at n in
        let yes : b ≡ true = e ∙ ap not h in
        record {
          there = λ f. absurd (true≢false (sym yes ∙ f));
          new = λ t. (more, p ∙ position_or_len_is (same_entry r) refs (length refs) r (omega arith) (λ i q. no-match h i q) (λ q. absurd (omega arith)), absent h);
        }
