-- What trees come to, by the list of a branch's subtrees and by the decision diagrams that they name.
use Rattle.std.proofs.Common.{◌≡◌, ℕ, zero, suc, ◌+◌, ◌<◌, Bool, List, [], ◌∷◌, ◌++◌, length, map, flat_map, get_or, slice_index_or, All, refl, ap, sym, ◌∙◌, subst, arith, length-append}
use Rattle.std.proofs.lemmas.List.{get_or_append_left, get_or_push}
use Rattle.spd_model.specs.declared.tree.Tree.{Tree, Leaf, Named, Branch, Branch', Row_of-Tree, end_of-Tree, more_of-Tree, items-the_row-Tree, items_hidden-the_row-Tree-0}
use Rattle.spd_model.specs.declared.tree.Tree.TheBlock.{hidden-the_row-Tree-0}
use Rattle.spd_model.specs.Process.{Process}
use Rattle.std.proofs.lemmas.List.Elements.{All-tail}
use Rattle.spd_model.specs.Trees.{Reading, read_tree, read_kids, read_diagrams, read_in, Part, missing, parts}
use Rattle.spd_model.specs.Lawful.{Fits}
use Rattle.spd_model.proofs.CallerLemmas.Lists.{All-left, All-right}

read_kids-items : {X : Type 0} (way : Reading X) (diagrams : List X) {n : _} (row : Row_of-Tree n)
    → read_kids way diagrams row ≡ map (read_tree way diagrams) (items-the_row-Tree n row)
read_kids-items way diagrams end_of-Tree = refl
read_kids-items way diagrams (more_of-Tree kid row) = ap (λ l. read_tree way diagrams kid ∷ l) (read_kids-items way diagrams row)

-- a branch comes to what its list of subtrees comes to
pub read_tree-Branch : {X : Type 0} (way : Reading X) (diagrams : List X) (var : ℕ) (primed : Bool) (kids : List Tree)
    → read_tree way diagrams (Branch var primed kids) ≡ way.branch var primed (map (read_tree way diagrams) kids)
read_tree-Branch way diagrams var primed kids =
    ap (way.branch var primed) (read_kids-items way diagrams (hidden-the_row-Tree-0 kids) ∙ ap (map (read_tree way diagrams)) (items_hidden-the_row-Tree-0 kids))

-- a tree names only diagrams below k
abbrev mutual
  pub NamesBelow : ℕ → Tree → Type 0
  NamesBelow k (Leaf x) = Unit {0}
  NamesBelow k (Named d) = d < k
  NamesBelow k (Branch' var primed shape kids) = KidsNameBelow k kids

  pub KidsNameBelow : ℕ → {n : _} → Row_of-Tree n → Type 0
  KidsNameBelow k end_of-Tree = Unit {0}
  KidsNameBelow k (more_of-Tree kid kids) = NamesBelow k kid × KidsNameBelow k kids

-- a tree whose parts fit names only diagrams that are there
named_below : (m : Process) (diagrams : List (List Part)) (d k : ℕ) → k ≡ length diagrams → All (Fits m) (slice_index_or diagrams d (missing ∷ [])) → d < k
named_below m [] d zero e h = absurd (h 0 missing (omega arith))
named_below m [] d (suc k) e h = absurd (omega arith)
named_below m (x ∷ xs) zero zero e h = absurd (omega arith)
named_below m (x ∷ xs) zero (suc k) e h = omega arith
named_below m (x ∷ xs) (suc d) zero e h = absurd (omega arith)
named_below m (x ∷ xs) (suc d) (suc k) e h = let below = named_below m xs d k (omega arith) h in omega arith

module _ (m : Process) (diagrams : List (List Part)) where
  mutual
    pub names_below : (tree : Tree) → All (Fits m) (read_tree parts diagrams tree) → NamesBelow (length diagrams) tree
    names_below (Leaf x) h = tt
    names_below (Named d) h = named_below m diagrams d (length diagrams) refl h
    names_below (Branch' var primed shape kids) h = kids_name_below kids (All-tail (Fits m) _ _ h)

    kids_name_below : {n : _} (kids : Row_of-Tree n) → All (Fits m) (flat_map (λ kid. kid) (read_kids parts diagrams kids)) → KidsNameBelow (length diagrams) kids
    kids_name_below end_of-Tree h = tt
    kids_name_below (more_of-Tree kid kids) h = (names_below kid (All-left (Fits m) _ _ h), kids_name_below kids (All-right (Fits m) _ _ h))

-- only what a tree names matters
module _ {X : Type 0} (way : Reading X) (xs ys : List X) (k : ℕ) (agree : (d : ℕ) → d < k → slice_index_or xs d way.absent ≡ slice_index_or ys d way.absent) where
  mutual
    read_tree_same : (tree : Tree) → NamesBelow k tree → read_tree way xs tree ≡ read_tree way ys tree
    read_tree_same (Leaf x) h = refl
    read_tree_same (Named d) h = agree d h
    read_tree_same (Branch' var primed shape kids) h = ap (way.branch var primed) (read_kids_same kids h)

    read_kids_same : {n : _} (kids : Row_of-Tree n) → KidsNameBelow k kids → read_kids way xs kids ≡ read_kids way ys kids
    read_kids_same end_of-Tree h = refl
    read_kids_same (more_of-Tree kid kids) h = λ i. read_tree_same kid h.0 i ∷ read_kids_same kids h.1 i

-- each diagram names only those before it
abbrev pub NameEarlier : ℕ → List Tree → Type 0
NameEarlier k [] = Unit {0}
NameEarlier k (dd ∷ dds) = NamesBelow k dd × NameEarlier (suc k) dds

-- later diagrams don't change what the earlier ones come to
kept_before : {X : Type 0} (way : Reading X) (before : List X) (dds : List Tree) (d : ℕ) (other : X) → d < length before
    → slice_index_or (read_diagrams way before dds) d other ≡ slice_index_or before d other
kept_before way before [] d other h = refl
kept_before way before (dd ∷ dds) d other h =
    kept_before way (before ++ read_tree way before dd ∷ []) dds d other (omega (arith, length-append before (read_tree way before dd ∷ [])))
    ∙ get_or_append_left before (read_tree way before dd ∷ []) other d h

pub length-read_diagrams : {X : Type 0} (way : Reading X) (before : List X) (dds : List Tree) → length (read_diagrams way before dds) ≡ length before + length dds
length-read_diagrams way before [] = omega arith
length-read_diagrams way before (dd ∷ dds) =
    length-read_diagrams way (before ++ read_tree way before dd ∷ []) dds ∙ omega (arith, length-append before (read_tree way before dd ∷ []))

-- diagrams whose parts fit name only earlier ones
pub names_earlier : (m : Process) (before : List (List Part)) (dds : List Tree) → All (All (Fits m)) (read_diagrams parts before dds) → NameEarlier (length before) dds
names_earlier m before [] h = tt
names_earlier m before (dd ∷ dds) h =
    let own = read_tree parts before dd in
    let more = before ++ own ∷ [] in
    let longer : length more ≡ suc (length before) = omega (arith, length-append before (own ∷ [])) in
    let near : length before < length (read_diagrams parts more dds) = omega (arith, longer, length-read_diagrams parts more dds) in
    let here : slice_index_or (read_diagrams parts more dds) (length before) [] ≡ own =
    kept_before parts more dds (length before) [] (omega (arith, longer)) ∙ get_or_push before own [] (length before) refl in
    (names_below m before dd (subst (All (Fits m)) here (h (length before) [] near)), subst (λ (k : ℕ). NameEarlier k dds) longer (names_earlier m more dds h))

-- a name comes to what its diagram's tree comes to
named_after : {X : Type 0} (way : Reading X) (before : List X) (dds : List Tree) → NameEarlier (length before) dds → (d : ℕ) → d < length dds → (other : Tree)
    → slice_index_or (read_diagrams way before dds) (length before + d) way.absent ≡ read_tree way (read_diagrams way before dds) (get_or dds d other)
named_after way before [] h d near other = absurd (omega arith)
named_after way before (dd ∷ dds) h zero near other =
    let more = before ++ read_tree way before dd ∷ [] in
    let longer = length-append before (read_tree way before dd ∷ []) in
    kept_before way more dds (length before + 0) way.absent (omega (arith, longer))
    ∙ get_or_push before (read_tree way before dd) way.absent (length before + 0) (omega arith)
    ∙ read_tree_same way before (read_diagrams way more dds) (length before)
    (λ e p. sym (kept_before way more dds e way.absent (omega (arith, longer)) ∙ get_or_append_left before (read_tree way before dd ∷ []) way.absent e p)) dd h.0
named_after way before (dd ∷ dds) h (suc d) near other =
    let more = before ++ read_tree way before dd ∷ [] in
    let longer : length more ≡ suc (length before) = omega (arith, length-append before (read_tree way before dd ∷ [])) in
    let place : length before + suc d ≡ length more + d = omega arith in
    ap (λ (i : ℕ). slice_index_or (read_diagrams way before (dd ∷ dds)) i way.absent) place
    ∙ named_after way more dds (subst (λ (k : ℕ). NameEarlier k dds) (sym longer) h.1) d (omega arith) other

pub read_in-Named : {X : Type 0} (way : Reading X) (m : Process) → NameEarlier 0 m.dds → (d : ℕ) → d < length m.dds → (other : Tree)
    → read_in way m (Named d) ≡ read_in way m (get_or m.dds d other)
read_in-Named way m h d near other = ap (λ (i : ℕ). slice_index_or (read_diagrams way [] m.dds) i way.absent) (omega arith) ∙ named_after way [] m.dds h d near other

-- ---- decision diagrams in order

-- those of a list in two parts: the second part comes to something after the first
pub read_diagrams-append : {X : Type 0} (way : Reading X) (before : List X) (xs ys : List Tree) → read_diagrams way before (xs ++ ys) ≡ read_diagrams way (read_diagrams way before xs) ys
read_diagrams-append way before [] ys = refl
read_diagrams-append way before (x ∷ xs) ys = read_diagrams-append way (before ++ read_tree way before x ∷ []) xs ys
