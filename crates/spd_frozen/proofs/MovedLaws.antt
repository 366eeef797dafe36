-- Diagrams with other leaves or on other variables: where both changes keep what is equal and what isn't, they keep the list of nodes.
use Rattle.std.proofs.Common.{◌≡◌, ℕ, Bool, true, false, not, ◌&&◌, ◌==◌, List, [], ◌∷◌, ◌++◌, map, refl, ap, sym, ◌∙◌, subst, if◌then◌else◌, unwrap_or}
use Rattle.std.specs.List.{list_any, list_all, prefix_len, position}
use Rattle.std.proofs.lemmas.List.{map-append, length-map}
use Rattle.spd_model.specs.Reduced.{Diagram, Subtrees, none, also, subtrees_of, Node, is_equal, are_equal, choice_of, with_node, nodes_after, nodes_after_all, nodes_of, node_number, node_numbers, node_of, listed}

module _ {X Y : Type 0} (change : X → Y) (place : ℕ → ℕ) where
  -- a diagram with other leaves, and with its branches on other variables
  abbrev mutual
    pub changed : Diagram X → Diagram Y
    changed (Diagram.leaf x) = Diagram.leaf (change x)
    changed (Diagram.branch v ds) = Diagram.branch (place v) (changed_all ds)

    pub changed_all : Subtrees X → Subtrees Y
    changed_all none = none
    changed_all (also d ds) = also (changed d) (changed_all ds)

  pub changed_all-list : (ds : List (Diagram X)) → changed_all (subtrees_of ds) ≡ subtrees_of (map changed ds)
  changed_all-list [] = refl
  changed_all-list (d ∷ ds) = ap (also (changed d)) (changed_all-list ds)

-- a node with another leaf, or with its branch on another variable
abbrev pub moved : {X Y : Type 0} → (X → Y) → (ℕ → ℕ) → Node X → Node Y
moved change place (Node.leaf x) = Node.leaf (change x)
moved change place (Node.branch v kids) = Node.branch (place v) kids

any-map : {X Y : Type 0} (p : X → Bool) (q : Y → Bool) (g : X → Y) (xs : List X) → ((x : X) → q (g x) ≡ p x) → list_any q (map g xs) ≡ list_any p xs
any-map p q g [] h = refl
any-map p q g (x ∷ xs) h = rw (h x, any-map p q g xs h) refl

all-map : {X Y : Type 0} (p : X → Bool) (q : Y → Bool) (g : X → Y) (xs : List X) → ((x : X) → q (g x) ≡ p x) → list_all q (map g xs) ≡ list_all p xs
all-map p q g [] h = refl
all-map p q g (x ∷ xs) h = rw (h x, all-map p q g xs h) refl

prefix-map : {X Y : Type 0} (p : X → Bool) (q : Y → Bool) (g : X → Y) (xs : List X) → ((x : X) → q (g x) ≡ p x) → prefix_len (λ y. not (q y)) (map g xs) ≡ prefix_len (λ x. not (p x)) xs
prefix-map p q g [] h = refl
prefix-map p q g (x ∷ xs) h = rw (h x, prefix-map p q g xs h) refl

position-map : {X Y : Type 0} (p : X → Bool) (q : Y → Bool) (g : X → Y) (xs : List X) → ((x : X) → q (g x) ≡ p x) → position q (map g xs) ≡ position p xs
position-map p q g xs h = rw (prefix-map p q g xs h, length-map xs g) refl

if-map : {X Y : Type 0} (g : X → Y) (b c : Bool) (x y : X) → b ≡ c → (if b then g x else g y) ≡ g (if c then x else y)
if-map g true c x y e = subst (λ (d : Bool). g x ≡ g (if d then x else y)) e refl
if-map g false c x y e = subst (λ (d : Bool). g y ≡ g (if d then x else y)) e refl

pub map-same : {X : Type 0} (f g : ℕ → X) → ((v : ℕ) → f v ≡ g v) → (vs : List ℕ) → map f vs ≡ map g vs
map-same f g h [] = refl
map-same f g h (v ∷ vs) = let first = h v in let others = map-same f g h vs in λ i. first i ∷ others i

module _ {X Y : Type 0} (same : X → X → Bool) (same' : Y → Y → Bool) (change : X → Y) (place : ℕ → ℕ) (keeps : (x y : X) → same' (change x) (change y) ≡ same x y)
    (apart : (v w : ℕ) → (place v == place w) ≡ (v == w)) where
  mutual
    is_equal-changed : (d e : Diagram X) → is_equal same' (changed change place d) (changed change place e) ≡ is_equal same d e
    is_equal-changed (Diagram.leaf x) (Diagram.leaf y) = keeps x y
    is_equal-changed (Diagram.leaf x) (Diagram.branch w es) = refl
    is_equal-changed (Diagram.branch v ds) (Diagram.leaf y) = refl
    is_equal-changed (Diagram.branch v ds) (Diagram.branch w es) = rw (apart v w, are_equal-changed ds es) refl

    are_equal-changed : (ds es : Subtrees X) → are_equal same' (changed_all change place ds) (changed_all change place es) ≡ are_equal same ds es
    are_equal-changed none none = refl
    are_equal-changed none (also e es) = refl
    are_equal-changed (also d ds) none = refl
    are_equal-changed (also d ds) (also e es) = rw (is_equal-changed d e, are_equal-changed ds es) refl

  with_node-changed : (ds : List (Diagram X)) (d : Diagram X) → with_node same' (map (changed change place) ds) (changed change place d) ≡ map (changed change place) (with_node same ds d)
  with_node-changed ds d =
      rw (any-map (is_equal same d) (is_equal same' (changed change place d)) (changed change place) ds (is_equal-changed d), sym (map-append (changed change place) ds (d ∷ [])))
      (if-map (map (changed change place)) (list_any (is_equal same d) ds) (list_any (is_equal same d) ds) ds (ds ++ d ∷ []) refl)

  mutual
    nodes_after-changed : (before : List (Diagram X)) (d : Diagram X) → nodes_after same' (map (changed change place) before) (changed change place d) ≡ map (changed change place) (nodes_after same before d)
    nodes_after-changed before (Diagram.leaf x) = with_node-changed before (Diagram.leaf x)
    nodes_after-changed before (Diagram.branch v es) =
        ap (λ (l : List (Diagram Y)). with_node same' l (Diagram.branch (place v) (changed_all change place es))) (nodes_after_all-changed before es)
        ∙ with_node-changed (nodes_after_all same before es) (Diagram.branch v es)

    nodes_after_all-changed : (before : List (Diagram X)) (es : Subtrees X) → nodes_after_all same' (map (changed change place) before) (changed_all change place es) ≡ map (changed change place) (nodes_after_all same before es)
    nodes_after_all-changed before none = refl
    nodes_after_all-changed before (also e es) =
        ap (λ (l : List (Diagram Y)). nodes_after_all same' l (changed_all change place es)) (nodes_after-changed before e) ∙ nodes_after_all-changed (nodes_after same before e) es

  node_number-changed : (ds : List (Diagram X)) (d : Diagram X) → node_number same' (map (changed change place) ds) (changed change place d) ≡ node_number same ds d
  node_number-changed ds d = ap (λ o. unwrap_or o 0) (position-map (is_equal same d) (is_equal same' (changed change place d)) (changed change place) ds (is_equal-changed d))

  node_numbers-changed : (ds : List (Diagram X)) (es : Subtrees X) → node_numbers same' (map (changed change place) ds) (changed_all change place es) ≡ node_numbers same ds es
  node_numbers-changed ds none = refl
  node_numbers-changed ds (also e es) =
      let first = node_number-changed ds e in
      let others = node_numbers-changed ds es in
      λ i. first i ∷ others i

  node_of-changed : (ds : List (Diagram X)) (d : Diagram X) → node_of same' (map (changed change place) ds) (changed change place d) ≡ moved change place (node_of same ds d)
  node_of-changed ds (Diagram.leaf x) = refl
  node_of-changed ds (Diagram.branch v es) = ap (Node.branch (place v)) (node_numbers-changed ds es)

  all_nodes-changed : (all ds : List (Diagram X)) → map (node_of same' (map (changed change place) all)) (map (changed change place) ds) ≡ map (moved change place) (map (node_of same all) ds)
  all_nodes-changed all [] = refl
  all_nodes-changed all (d ∷ ds) =
      let first = node_of-changed all d in
      let others = all_nodes-changed all ds in
      λ i. first i ∷ others i

  pub listed-changed : (d : Diagram X) → listed same' (changed change place d) ≡ map (moved change place) (listed same d)
  listed-changed d =
      ap (λ (l : List (Diagram Y)). map (node_of same' l) l) (nodes_after-changed [] d) ∙ all_nodes-changed (nodes_of same d) (nodes_of same d)

  pub choice-changed : (var : ℕ) (ds : List (Diagram X)) → choice_of same' (place var) (map (changed change place) ds) ≡ changed change place (choice_of same var ds)
  choice-changed var [] = refl
  choice-changed var (d ∷ ds) =
      rw (all-map (is_equal same d) (is_equal same' (changed change place d)) (changed change place) ds (is_equal-changed d), sym (changed_all-list change place ds))
      (if-map (changed change place) (list_all (is_equal same d) ds) (list_all (is_equal same d) ds) d (Diagram.branch var (subtrees_of (d ∷ ds))) refl)
