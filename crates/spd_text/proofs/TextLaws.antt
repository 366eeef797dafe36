-- The text of a result from its pieces.
use Rattle.std.proofs.Common.{◌≡◌, ℕ, ◌+◌, ◌<◌, ◌≤◌, List, [], ◌∷◌, ◌++◌, length, map, flat_map, take, drop, get_or, Bor, refl, ap, sym, ◌∙◌, arith, append_assoc, append-nil, codes, decimal, ℤ}
use Rattle.std.specs.Prelude.{All}
use Rattle.std.specs.List.{join_with_byte, enumerate_from, zip}
use Rattle.std.proofs.lemmas.List.{take_more, take-append-drop, take_all, map-append, get_or-map, length-map, length-take-le, map_push}
use Rattle.std.proofs.lemmas.List.Elements.{All-head, All-tail}
use Rattle.std.proofs.lemmas.Grind.{flat_map-append}
use Rattle.std.proofs.lemmas.Slice.Zip.{get_or-zip, length-zip}
use Rattle.hex.specs.Hex.{encode_lower}
use Rattle.std.proofs.lemmas.Int.{to_z-of_z}
use Rattle.std.specs.Prelude.{FitsSigned}
use Rattle.std.specs.Int.{w128}
use mir.Val.{to_z, of_z}
use Rattle.spd_scaled.specs.Units.{units_text}
use Rattle.spd_model.specs.declared.process.Var.{Var}
use Rattle.spd_model.specs.declared.Why.{Why}
use Rattle.spd_model.specs.Process.{Process}
use Rattle.spd_model.specs.Reduced.{Node}
use Rattle.spd_model.specs.Turns.{Place}
use Rattle.spd_model.specs.ResultText.{line, units, why_text, side_text, action_name, var_name, value_name, state_words, node_line, nodes_text, place_line, text_of}
use Rattle.spd_nodes.specs.declared.leaf.Leaf.{Leaf}
use Rattle.spd_nodes.specs.declared.leaf.Leaf.TheVariants.{Num, Pair, Act}
use Rattle.spd_frozen.specs.declared.node.Node.{Node as StoredNode}
use Rattle.spd_frozen.specs.declared.iterate.Iterate.{Iterate}
use Rattle.spd_frozen.specs.Nodes.{shown, all_shown}
use Rattle.spd_frozen.specs.Fits.{IsValue, IsChoice, FitsModel}
use Rattle.spd_frozen.specs.Told.{with_leaf, number_of, action_of, told}
use Rattle.spd_edge.specs.Pieces.{text_of_pieces}
use Rattle.spd_edge.proofs.CallerLemmas.{pieces-more}
use Rattle.spd_text.specs.inner.Pieces.{spaced, leaf_text}
use Rattle.spd_text.specs.inner.Parts.{title_text, head_text, end_words, end_text, top_text, counts_text}
use Rattle.spd_text.specs.Summary.{summary_text}
use Rattle.spd_text.specs.Failure.{failure_line}

-- pieces before, one piece, and those behind it
pub pieces-split : (pieces : List (Bor (List ℕ))) (i : ℕ) (d : Bor (List ℕ)) → i < length pieces
    → text_of_pieces pieces ≡ (text_of_pieces (take i pieces) ++ (get_or pieces i d).now) ++ text_of_pieces (drop (i + 1) pieces)
pieces-split pieces i d h =
    ap text_of_pieces (sym (take-append-drop (i + 1) pieces)) ∙ flat_map-append (λ (p : Bor (List ℕ)). p.now) (take (i + 1) pieces) (drop (i + 1) pieces)
    ∙ ap (λ l. l ++ text_of_pieces (drop (i + 1) pieces)) (sym (pieces-more pieces i d h))

-- no piece
abbrev pub no_piece : Bor (List ℕ)
no_piece = record { ref_ptr = (0, 0); now = [] }

-- words after the first
pub words-spaced : (w : List ℕ) (ws : List (List ℕ)) → join_with_byte 32 (w ∷ ws) ≡ w ++ spaced ws
words-spaced w [] = sym (append-nil w)
words-spaced w (v ∷ ws) = ap (λ (t : List ℕ). w ++ (32 ∷ t)) (words-spaced v ws)

pub spaced-append : (xs ys : List (List ℕ)) → spaced (xs ++ ys) ≡ spaced xs ++ spaced ys
spaced-append xs ys = flat_map-append (λ (word : List ℕ). 32 ∷ word) xs ys

pub title-is : (digest : List ℕ) → (codes "spd result 2" ++ 10 ∷ codes "model ") ++ (digest ++ ((10 ∷ []) ++ [])) ≡ title_text digest
title-is digest = simp (append_assoc, append-nil)

pub head-is : (why turn residual : List ℕ)
    → codes "status " ++ (why ++ ((10 ∷ codes "turn ") ++ (turn ++ ((10 ∷ codes "residual ") ++ (residual ++ ((10 ∷ codes "at") ++ [])))))) ≡ head_text why turn residual
head-is why turn residual = regroup-head (codes "status ") why (codes "turn ") turn (codes "residual ") residual (codes "at") (10 ∷ [])
  where
    regroup-head : (s w t k r u at n : List ℕ) → s ++ (w ++ ((n ++ t) ++ (k ++ ((n ++ r) ++ (u ++ (n ++ at)))))) ≡ ((((s ++ w) ++ n) ++ ((t ++ k) ++ n)) ++ ((r ++ u) ++ n)) ++ at
    regroup-head s w t k r u at n = simp append_assoc

-- the line of a ring, and the lines of the counts
pub ring-is : (machines : List ℕ) → codes "spd ring " ++ (machines ++ ((10 ∷ []) ++ [])) ≡ line (codes "spd" ∷ codes "ring" ∷ machines ∷ [])
ring-is machines = simp (append_assoc, append-nil)

pub counts-is : (value policy : List ℕ) → codes "value " ++ (value ++ ((10 ∷ codes "policy ") ++ (policy ++ ((10 ∷ codes "end" ++ 10 ∷ []) ++ [])))) ≡ counts_text value policy
counts-is value policy = regroup-counts (codes "value ") value (codes "policy ") policy (codes "end" ++ 10 ∷ []) (10 ∷ [])
  where
    regroup-counts : (v x p y e n : List ℕ) → v ++ (x ++ ((n ++ p) ++ (y ++ (n ++ e)))) ≡ (((v ++ x) ++ n) ++ ((p ++ y) ++ n)) ++ e
    regroup-counts v x p y e n = simp append_assoc

-- the side and the action of a residual, and the line of the error
pub end-is : (side action error : List ℕ)
    → (32 ∷ []) ++ (side ++ ((32 ∷ []) ++ (action ++ ((10 ∷ codes "error ") ++ (error ++ ((10 ∷ []) ++ [])))))) ≡ end_words side action error
end-is side action error = regroup-end (32 ∷ []) side action (codes "error ") error (10 ∷ [])
  where
    regroup-end : (p s a e u n : List ℕ) → p ++ (s ++ (p ++ (a ++ ((n ++ e) ++ (u ++ n))))) ≡ (((p ++ s) ++ ((p ++ a) ++ [])) ++ n) ++ ((e ++ u) ++ n)
    regroup-end p s a e u n = simp (append_assoc, append-nil)

-- the text of a number that the code holds
pub number-is : (n : ℤ) (text : List ℕ) → FitsSigned w128 n → text ≡ units_text 9 (to_z w128 (of_z w128 n)) → text ≡ units n
number-is n text fits e = e ∙ ap (units_text 9) (to_z-of_z w128 n fits)

-- the line of a leaf
pub leaf-is : (number text : List ℕ) → number ++ ((32 ∷ codes "leaf ") ++ (text ++ ((10 ∷ []) ++ []))) ≡ line (number ∷ codes "leaf" ∷ text ∷ [])
leaf-is number text = simp append_assoc

-- the line of a branch
pub branch-is : (number name : List ℕ) (kids : List (List ℕ))
    → ((number ++ ((32 ∷ codes "branch ") ++ (name ++ []))) ++ spaced kids) ++ 10 ∷ [] ≡ line (number ∷ codes "branch" ∷ name ∷ kids)
branch-is number name kids = rw (words-spaced number (codes "branch" ∷ name ∷ kids)) (simp (append_assoc, append-nil))

-- the line before the nodes of a diagram
pub heading-is : (word count : List ℕ) → word ++ ((32 ∷ []) ++ (count ++ ((10 ∷ []) ++ []))) ≡ line (word ∷ count ∷ [])
heading-is word count = simp append_assoc

-- one kid more
pub kids-more : (kids : List ℕ) (i : ℕ) (number : List ℕ) → i < length kids → number ≡ decimal (get_or kids i 0)
    → spaced (map decimal (take i kids)) ++ (32 ∷ (number ++ [])) ≡ spaced (map decimal (take (i + 1) kids))
kids-more kids i number h e =
    ap (λ (t : List ℕ). spaced (map decimal (take i kids)) ++ (32 ∷ (t ++ []))) e
    ∙ sym (ap (λ (l : List ℕ). spaced (map decimal l)) (take_more kids i 0 h) ∙ ap spaced (map_push decimal (take i kids) (get_or kids i 0))
    ∙ spaced-append (map decimal (take i kids)) (decimal (get_or kids i 0) ∷ []))

-- the kids before, one, and those behind it
pub kids-split : (kids : List ℕ) (i : ℕ) → spaced (map decimal kids) ≡ spaced (map decimal (take i kids)) ++ spaced (map decimal (drop i kids))
kids-split kids i =
    ap (λ (l : List ℕ). spaced (map decimal l)) (sym (take-append-drop i kids)) ∙ ap spaced (map-append decimal (take i kids) (drop i kids)) ∙ spaced-append (map decimal (take i kids)) (map decimal (drop i kids))

-- ---- the lines of nodes
enumerate_from-append : {X : Type 0} (n : ℕ) (xs ys : List X) → enumerate_from n (xs ++ ys) ≡ enumerate_from n xs ++ enumerate_from (n + length xs) ys
enumerate_from-append n [] ys = ap (λ (k : ℕ). enumerate_from k ys) (omega arith)
enumerate_from-append n (x ∷ xs) ys = ap (λ l. (n, x) ∷ l) (enumerate_from-append (n + 1) xs ys ∙ ap (λ (k : ℕ). enumerate_from (n + 1) xs ++ enumerate_from k ys) (omega arith))

module _ (text : Leaf → List ℕ) (name : ℕ → List ℕ) where
  abbrev pub lines_from : ℕ → List (Node Leaf) → List ℕ
  lines_from n nodes = flat_map (λ x. node_line text name x.0 x.1) (enumerate_from n nodes)

  lines-append : (n : ℕ) (xs ys : List (Node Leaf)) → lines_from n (xs ++ ys) ≡ lines_from n xs ++ lines_from (n + length xs) ys
  lines-append n xs ys =
      ap (flat_map (λ x. node_line text name x.0 x.1)) (enumerate_from-append n xs ys) ∙ flat_map-append (λ x. node_line text name x.0 x.1) (enumerate_from n xs) (enumerate_from (n + length xs) ys)

  -- one node more
  pub lines-more : (items : List StoredNode) (i : ℕ) (node : StoredNode) → i < length items → node ≡ get_or items i node
      → lines_from 0 (all_shown (take i items)) ++ node_line text name i (shown node) ≡ lines_from 0 (all_shown (take (i + 1) items))
  lines-more items i node h e =
      let before = all_shown (take i items) in
      let long : 0 + length before ≡ i = omega (arith, length-map (take i items) shown, length-take-le i items (omega arith)) in
      sym (ap (λ (l : List StoredNode). lines_from 0 (all_shown l)) (take_more items i node h ∙ ap (λ (n : StoredNode). take i items ++ n ∷ []) (sym e))
      ∙ ap (lines_from 0) (map_push shown (take i items) node) ∙ lines-append 0 before (shown node ∷ [])
      ∙ ap (λ (k : ℕ). lines_from 0 before ++ (node_line text name k (shown node) ++ [])) long ∙ ap (λ l. lines_from 0 before ++ l) (append-nil (node_line text name i (shown node))))

  -- the nodes before, and those behind
  pub lines-split : (items : List StoredNode) (i : ℕ) → i ≤ length items → (rest : List ℕ) × (lines_from 0 (all_shown items) ≡ lines_from 0 (all_shown (take i items)) ++ rest)
  lines-split items i h = (
    lines_from (0 + length (all_shown (take i items))) (all_shown (drop i items)),
    ap (λ (l : List StoredNode). lines_from 0 (all_shown l)) (sym (take-append-drop i items)) ∙ ap (lines_from 0) (map-append shown (take i items) (drop i items))
        ∙ lines-append 0 (all_shown (take i items)) (all_shown (drop i items)),
  )

  -- the text of a diagram from the lines of its nodes
  pub nodes-whole : (word : List ℕ) (items : List StoredNode) (nodes : List (Node Leaf)) → all_shown items ≡ nodes
      → nodes_text text name word nodes ≡ line (word ∷ decimal (length items) ∷ []) ++ lines_from 0 (all_shown items)
  nodes-whole word items nodes e =
      sym (ap (nodes_text text name word) e) ∙ ap (λ (n : ℕ). line (word ∷ decimal n ∷ []) ++ lines_from 0 (all_shown items)) (length-map items shown)

-- ---- other leaves with the same text
module _ {X Y : Type 0} (change : X → Y) (text : X → List ℕ) (text' : Y → List ℕ) (name : ℕ → List ℕ) (P : X → Type 0) (same : (x : X) → P x → text x ≡ text' (change x)) where
  abbrev Has : Node X → Type 0
  Has (Node.leaf x) = P x
  Has (Node.branch v kids) = Unit {0}

  line-changed : (i : ℕ) (n : Node X) → Has n → node_line text name i n ≡ node_line text' name i (with_leaf change n)
  line-changed i (Node.leaf x) h = ap (λ (t : List ℕ). line (decimal i ∷ codes "leaf" ∷ t ∷ [])) (same x h)
  line-changed i (Node.branch v kids) h = refl

  lines-changed : (i : ℕ) (nodes : List (Node X)) → All Has nodes
      → flat_map (λ x. node_line text name x.0 x.1) (enumerate_from i nodes) ≡ flat_map (λ x. node_line text' name x.0 x.1) (enumerate_from i (map (with_leaf change) nodes))
  lines-changed i [] h = refl
  lines-changed i (n ∷ nodes) h =
      let first = line-changed i n (All-head Has n nodes h) in
      let others = lines-changed (i + 1) nodes (All-tail Has n nodes h) in
      λ k. first k ++ others k

  nodes_text-changed : (word : List ℕ) (nodes : List (Node X)) → All Has nodes → nodes_text text name word nodes ≡ nodes_text text' name word (map (with_leaf change) nodes)
  nodes_text-changed word nodes h =
      let count : length nodes ≡ length (map (with_leaf change) nodes) = sym (length-map nodes (with_leaf change)) in
      let lines = lines-changed 0 nodes h in
      λ k. line (word ∷ decimal (count k) ∷ []) ++ lines k

value-leaf : (m : Process) (x : Leaf) → IsValue x → leaf_text m x ≡ units (number_of x)
value-leaf m (Num x) h = refl
value-leaf m (Pair x y) h = absurd h
value-leaf m (Act a) h = absurd h

choice-leaf : (m : Process) (n : ℕ) (x : Leaf) → IsChoice n x → leaf_text m x ≡ action_name m (action_of x)
choice-leaf m n (Num x) h = absurd h
choice-leaf m n (Pair x y) h = absurd h
choice-leaf m n (Act a) h = refl

-- ---- the state of a residual
pub variable-more : (m : Process) (s : List ℕ) (vars : List Var) (i v : ℕ) (var : Var) → vars ≡ m.vars → i < length vars → length s ≡ length m.vars
    → var ≡ get_or vars i var → v ≡ get_or s i 0 → spaced (take i (state_words m s)) ++ ((32 ∷ []) ++ (var.name ++ ((61 ∷ []) ++ (value_name var v ++ [])))) ≡ spaced (take (i + 1) (state_words m s))
variable-more m s vars i v var all within same is value =
    let both : List (Var × ℕ) = zip m.vars s in
    let word = λ (x : Var × ℕ). (x.0.name ++ 61 ∷ []) ++ value_name x.0 x.1 in
    let count : length both ≡ length m.vars = omega (arith, length-zip m.vars s) in
    let inside : i < length m.vars = rw (← all) within in
    let variable : get_or m.vars i var ≡ var = rw (← all) (sym is) in
    let here : get_or (state_words m s) i [] ≡ word (var, v) =
    get_or-map word both i (var, 0) [] (omega arith)
    ∙ rw (get_or-zip m.vars s i (var, 0) inside (omega arith), variable, value) refl in
    let more = take_more (state_words m s) i [] (omega (arith, length-map both word)) in
    rw (more, spaced-append (take i (state_words m s)) (get_or (state_words m s) i [] ∷ []), here) (simp (append_assoc, append-nil))

pub variables-all : (m : Process) (s : List ℕ) (vars : List Var) (i : ℕ) → vars ≡ m.vars → length vars ≤ i → length s ≡ length m.vars → spaced (take i (state_words m s)) ≡ spaced (state_words m s)
variables-all m s vars i all past same =
    let both : List (Var × ℕ) = zip m.vars s in
    let word = λ (x : Var × ℕ). (x.0.name ++ 61 ∷ []) ++ value_name x.0 x.1 in
    let count : length vars ≡ length m.vars = ap length all in
    ap spaced (take_all i (state_words m s) (omega (arith, length-map both word, length-zip m.vars s)))

pub variables-split : (m : Process) (s : List ℕ) (i : ℕ) → spaced (state_words m s) ≡ spaced (take i (state_words m s)) ++ spaced (drop i (state_words m s))
variables-split m s i = ap spaced (sym (take-append-drop i (state_words m s))) ∙ spaced-append (take i (state_words m s)) (drop i (state_words m s))

-- ---- the whole text
place-is : (words : List (List ℕ)) (side action error : List ℕ)
    → (codes "at" ++ spaced words) ++ (spaced (side ∷ action ∷ []) ++ 10 ∷ [] ++ error) ≡ line ((codes "at" ∷ words) ++ side ∷ action ∷ []) ++ error
place-is words side action error =
    regroup-place (codes "at") (spaced words) (32 ∷ []) side action (10 ∷ []) error
    ∙ sym (ap (λ (t : List ℕ). (t ++ 10 ∷ []) ++ error) (words-spaced (codes "at") (words ++ side ∷ action ∷ []) ∙ ap (λ (t : List ℕ). codes "at" ++ t) (spaced-append words (side ∷ action ∷ []))))
  where
    regroup-place : (at ws p s a n e : List ℕ) → (at ++ ws) ++ ((((p ++ s) ++ ((p ++ a) ++ [])) ++ n) ++ e) ≡ ((at ++ (ws ++ ((p ++ s) ++ ((p ++ a) ++ [])))) ++ n) ++ e
    regroup-place at ws p s a n e = simp (append_assoc, append-nil)

-- the side and the action of a place, and the end of its line
pub choice-is : (side action : List ℕ) → (32 ∷ []) ++ (side ++ ((32 ∷ []) ++ (action ++ ((10 ∷ []) ++ [])))) ≡ spaced (side ∷ action ∷ []) ++ 10 ∷ []
choice-is side action = regroup-choice (32 ∷ []) side action (10 ∷ [])
  where
    regroup-choice : (p s a n : List ℕ) → p ++ (s ++ (p ++ (a ++ n))) ≡ ((p ++ s) ++ ((p ++ a) ++ [])) ++ n
    regroup-choice p s a n = simp (append_assoc, append-nil)

-- the line of a place at which a certificate fails
pub failure-is : (m : Process) (p : Place)
    → (codes "no" ++ spaced (state_words m p.state)) ++ (spaced (side_text p.side ∷ action_name m p.action ∷ []) ++ 10 ∷ []) ≡ failure_line m p
failure-is m p =
    let words = state_words m p.state in
    let choice = side_text p.side ∷ action_name m p.action ∷ [] in
    sym (append_assoc (codes "no" ++ spaced words) (spaced choice) (10 ∷ []))
    ∙ sym (ap (λ (t : List ℕ). t ++ 10 ∷ []) (words-spaced (codes "no") (words ++ choice) ∙ ap (λ (t : List ℕ). codes "no" ++ t) (spaced-append words choice)
    ∙ sym (append_assoc (codes "no") (spaced words) (spaced choice))))

-- the lines of a turn, with the whole line of its place
pub top-is : (m : Process) (why : Why) (x : Iterate)
    → top_text m why x ≡ (((line (codes "status" ∷ why_text why ∷ []) ++ line (codes "turn" ∷ decimal x.turn ∷ [])) ++ line (codes "residual" ∷ units x.residual.r ∷ []))
    ++ place_line m (told x).place) ++ line (codes "error" ∷ units x.error ∷ [])
top-is m why x =
    regroup-top ((line (codes "status" ∷ why_text why ∷ []) ++ line (codes "turn" ∷ decimal x.turn ∷ [])) ++ line (codes "residual" ∷ units x.residual.r ∷ []))
    (codes "at") (spaced (state_words m x.residual.at)) (end_text m x.residual x.error) (place_line m (told x).place) (line (codes "error" ∷ units x.error ∷ []))
    (place-is (state_words m x.residual.at) (side_text x.residual.side) (action_name m x.residual.action) (line (codes "error" ∷ units x.error ∷ [])))
  where
    regroup-top : (head at state end place error : List ℕ) → (at ++ state) ++ end ≡ place ++ error → ((head ++ at) ++ state) ++ end ≡ (head ++ place) ++ error
    regroup-top head at state end place error h =
        ap (λ (t : List ℕ). t ++ end) (append_assoc head at state) ∙ append_assoc head (at ++ state) end ∙ ap (λ (t : List ℕ). head ++ t) h ∙ sym (append_assoc head place error)

pub whole-is : (digest : List ℕ) (m : Process) (why : Why) (x : Iterate) → FitsModel m x
    → (((title_text (encode_lower digest) ++ top_text m why x) ++ nodes_text (leaf_text m) (var_name m) (codes "value") x.value)
    ++ nodes_text (leaf_text m) (var_name m) (codes "policy") x.policy) ++ line (codes "end" ∷ [])
    ≡ text_of digest m why (told x)
whole-is digest m why x fits =
    let title = title_text (encode_lower digest) in
    let value = nodes_text-changed number_of (leaf_text m) units (var_name m) IsValue (value-leaf m) (codes "value") x.value fits.values in
    let policy = nodes_text-changed action_of (leaf_text m) (action_name m) (var_name m) (IsChoice (length m.actions)) (choice-leaf m (length m.actions)) (codes "policy") x.policy fits.choices in
    ap (λ (t : List ℕ). (((title ++ t) ++ nodes_text (leaf_text m) (var_name m) (codes "value") x.value) ++ nodes_text (leaf_text m) (var_name m) (codes "policy") x.policy) ++ line (codes "end" ∷ [])) (top-is m why x)
    ∙ regroup (line (codes "spd result 2" ∷ [])) (line (codes "model" ∷ encode_lower digest ∷ [])) (line (codes "status" ∷ why_text why ∷ [])) (line (codes "turn" ∷ decimal x.turn ∷ []))
    (line (codes "residual" ∷ units x.residual.r ∷ [])) (place_line m (told x).place) (line (codes "error" ∷ units x.error ∷ [])) _ _ _ _ (line (codes "end" ∷ [])) value policy
  where
    regroup : (a b c d e place error v v' p p' last : List ℕ) → v ≡ v' → p ≡ p'
        → ((((a ++ b) ++ ((((c ++ d) ++ e) ++ place) ++ error)) ++ v) ++ p) ++ last ≡ ((((((((a ++ b) ++ c) ++ d) ++ e) ++ place) ++ error) ++ v') ++ p') ++ last
    regroup a b c d e place error v v' p p' last f g =
        (λ i. ((((a ++ b) ++ ((((c ++ d) ++ e) ++ place) ++ error)) ++ f i) ++ g i) ++ last) ∙ same v' p'
      where
        same : (v p : List ℕ) → ((((a ++ b) ++ ((((c ++ d) ++ e) ++ place) ++ error)) ++ v) ++ p) ++ last ≡ ((((((((a ++ b) ++ c) ++ d) ++ e) ++ place) ++ error) ++ v) ++ p) ++ last
        same v p = simp append_assoc

-- the whole summary
pub summary-is : (machines : ℕ) (m : Process) (why : Why) (x : Iterate)
    → (line (codes "spd" ∷ codes "ring" ∷ decimal machines ∷ []) ++ top_text m why x) ++ counts_text (decimal (length x.value)) (decimal (length x.policy)) ≡ summary_text machines m why (told x)
summary-is machines m why x =
    let ring = line (codes "spd" ∷ codes "ring" ∷ decimal machines ∷ []) in
    let value : length x.value ≡ length (told x).value = sym (length-map x.value (with_leaf number_of)) in
    let policy : length x.policy ≡ length (told x).policy = sym (length-map x.policy (with_leaf action_of)) in
    ap (λ (t : List ℕ). (ring ++ t) ++ counts_text (decimal (length x.value)) (decimal (length x.policy))) (top-is m why x)
    ∙ (λ i. (ring ++ ((((line (codes "status" ∷ why_text why ∷ []) ++ line (codes "turn" ∷ decimal x.turn ∷ [])) ++ line (codes "residual" ∷ units x.residual.r ∷ []))
    ++ place_line m (told x).place) ++ line (codes "error" ∷ units x.error ∷ []))) ++ counts_text (decimal (value i)) (decimal (policy i)))
    ∙ regroup ring (line (codes "status" ∷ why_text why ∷ [])) (line (codes "turn" ∷ decimal x.turn ∷ [])) (line (codes "residual" ∷ units x.residual.r ∷ [])) (place_line m (told x).place)
    (line (codes "error" ∷ units x.error ∷ [])) (line (codes "value" ∷ decimal (length (told x).value) ∷ [])) (line (codes "policy" ∷ decimal (length (told x).policy) ∷ [])) (line (codes "end" ∷ []))
  where
    regroup : (a c d e place error v p last : List ℕ) → (a ++ ((((c ++ d) ++ e) ++ place) ++ error)) ++ ((v ++ p) ++ last) ≡ (((((((a ++ c) ++ d) ++ e) ++ place) ++ error) ++ v) ++ p) ++ last
    regroup a c d e place error v p last = simp append_assoc
