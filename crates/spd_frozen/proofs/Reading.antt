-- A list of nodes and the diagrams that it stands for.
use Rattle.std.proofs.Common.{◌≡◌, ℕ, suc, ◌+◌, ◌<◌, List, [], ◌∷◌, ◌++◌, length, map, get_or, refl, ap, sym, ◌∙◌, subst, arith, append_assoc, append-nil, length-append, pos}
use Rattle.std.specs.Prelude.{All}
use Rattle.std.proofs.lemmas.List.{get_or_append_left}
use Rattle.std.proofs.lemmas.List.Elements.{All-head, All-tail}
use Rattle.spd_model.specs.Reduced.{Diagram, Subtrees, none, also, subtrees_of, Node, node_number, node_numbers, node_of}
use Rattle.spd_nodes.specs.Trees.{leaf_eq}
use Rattle.spd_nodes.specs.declared.leaf.Leaf.{Leaf}
use Rattle.spd_nodes.specs.declared.leaf.Leaf.TheVariants.{Num}
use Rattle.spd_frozen.specs.Frozen.{diagram_of, diagrams_after, diagrams}
use Rattle.spd_frozen.specs.inner.Unique.{HasKidsBelow, KidsFirst, AreAmong, HasSubtreesAmong}
use Rattle.spd_frozen.proofs.Places.{D, number-append, number-is}
use Rattle.spd_frozen.proofs.Completion.{AreInOrder}

-- what stands at no place of a list
abbrev pub nothing : D
nothing = Diagram.leaf (Num (pos 0))

abbrev pub kid_at : List D → ℕ → D
kid_at ds k = get_or ds k nothing

-- the node of a diagram is read to that diagram
kids-read : (before rest : List D) (es : Subtrees Leaf) → AreAmong before es → subtrees_of (map (kid_at before) (node_numbers leaf_eq (before ++ rest) es)) ≡ es
kids-read before rest none h = refl
kids-read before rest (also e es) h =
    let first : kid_at before (node_number leaf_eq (before ++ rest) e) ≡ e = ap (kid_at before) (number-append before rest e h.0) ∙ number-is before e nothing h.0 in
    let others = kids-read before rest es h.1 in
    λ i. also (first i) (others i)

node-read : (before rest : List D) (d : D) → HasSubtreesAmong before d → diagram_of before (node_of leaf_eq (before ++ rest) d) ≡ d
node-read before rest (Diagram.leaf x) h = refl
node-read before rest (Diagram.branch v es) h = ap (Diagram.branch v) (kids-read before rest es h)

-- nodes whose subtrees stand first are read to their diagrams
pub diagrams-nodes : (before ds : List D) → AreInOrder before ds → diagrams_after before (map (node_of leaf_eq (before ++ ds)) ds) ≡ before ++ ds
diagrams-nodes before [] h = sym (append-nil before)
diagrams-nodes before (d ∷ ds) h =
    let all : (before ++ d ∷ []) ++ ds ≡ before ++ d ∷ ds = append_assoc before (d ∷ []) ds in
    let more = diagrams-nodes (before ++ d ∷ []) ds h.1 in
    ap (λ (e : D). diagrams_after (before ++ e ∷ []) (map (node_of leaf_eq (before ++ d ∷ ds)) ds)) (node-read before (d ∷ ds) d h.0)
    ∙ subst (λ (l : List D). diagrams_after (before ++ d ∷ []) (map (node_of leaf_eq l) ds) ≡ l) all more

-- one node more
pub diagrams_after-push : (before : List D) (nodes : List (Node Leaf)) (n : Node Leaf) → diagrams_after before (nodes ++ n ∷ []) ≡ diagrams_after before nodes ++ diagram_of (diagrams_after before nodes) n ∷ []
diagrams_after-push before [] n = refl
diagrams_after-push before (m ∷ nodes) n = diagrams_after-push (before ++ diagram_of before m ∷ []) nodes n

pub length-diagrams_after : (before : List D) (nodes : List (Node Leaf)) → length (diagrams_after before nodes) ≡ length before + length nodes
length-diagrams_after before [] = omega arith
length-diagrams_after before (n ∷ nodes) =
    let one = length-append before (diagram_of before n ∷ []) in
    let more = length-diagrams_after (before ++ diagram_of before n ∷ []) nodes in
    omega (arith, one, more)

-- further diagrams change nothing for a node whose kids stand before
same-kids : (before rest : List D) (kids : List ℕ) → All (λ k. k < length before) kids → map (kid_at (before ++ rest)) kids ≡ map (kid_at before) kids
same-kids before rest [] h = refl
same-kids before rest (k ∷ kids) h =
    let first : kid_at (before ++ rest) k ≡ kid_at before k = get_or_append_left before rest nothing k (All-head (λ j. j < length before) k kids h) in
    let others = same-kids before rest kids (All-tail (λ j. j < length before) k kids h) in
    λ i. first i ∷ others i

pub diagram_of-append : (before rest : List D) (n : Node Leaf) → HasKidsBelow (length before) n → diagram_of (before ++ rest) n ≡ diagram_of before n
diagram_of-append before rest (Node.leaf x) h = refl
diagram_of-append before rest (Node.branch v kids) h = ap (λ (ds : List D). Diagram.branch v (subtrees_of ds)) (same-kids before rest kids h)

-- the diagrams of nodes are read one by one in the whole list
pub record Reads (before : List D) (nodes : List (Node Leaf)) (all : List D) : Type 0 where
  pub more : List D
  pub is : all ≡ before ++ more
  pub each : more ≡ map (diagram_of all) nodes

pub diagrams_after-reads : (before : List D) (nodes : List (Node Leaf)) → KidsFirst (length before) nodes → Reads before nodes (diagrams_after before nodes)
diagrams_after-reads before [] h = record { more = []; is = sym (append-nil before); each = refl }
diagrams_after-reads before (n ∷ nodes) h =
    let d = diagram_of before n in
    let all = diagrams_after before (n ∷ nodes) in
    let long : length (before ++ d ∷ []) ≡ suc (length before) = omega (arith, length-append before (d ∷ [])) in
    let k : KidsFirst (length (before ++ d ∷ [])) nodes = subst (λ (m : ℕ). KidsFirst m nodes) (sym long) h.1 in
    let rest = diagrams_after-reads (before ++ d ∷ []) nodes k in
    let is : all ≡ before ++ (d ∷ rest.more) = rest.is ∙ append_assoc before (d ∷ []) rest.more in
    let own : d ≡ diagram_of all n = sym (ap (λ (l : List D). diagram_of l n) is ∙ diagram_of-append before (d ∷ rest.more) n h.0) in
    record { more = d ∷ rest.more; is = is; each = λ i. own i ∷ rest.each i }

pub diagrams-each : (nodes : List (Node Leaf)) → KidsFirst 0 nodes → diagrams nodes ≡ map (diagram_of (diagrams nodes)) nodes
diagrams-each nodes h = let r = diagrams_after-reads [] nodes h in r.is ∙ r.each
