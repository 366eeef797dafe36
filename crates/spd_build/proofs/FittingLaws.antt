-- Trees that fit a process of which the first decision diagrams are there: their parts, and the process's own trees.
use Rattle.std.proofs.Common.{◌≡◌, ℕ, zero, suc, ◌<◌, ◌≤◌, Bool, List, [], ◌∷◌, ◌++◌, length, map, get_or, slice_index, take, drop, pos, ap, sym, ◌∙◌, subst, arith, max, fold, All, append_assoc, append-nil, length-take}
use Rattle.std.specs.List.{AllZip}
use Rattle.std.proofs.Math.Seq.{split_at}
use Rattle.std.proofs.lemmas.List.{get_or-map, length-map, get_or-take, length-take-le, take_at, get_or_at}
use Rattle.std.proofs.lemmas.List.Elements.{All-head, All-tail}
use Rattle.spd_cons_core.specs.declared.key.Entry.{Entry}
use Rattle.spd_model.specs.declared.tree.Tree.{Tree, Leaf, Named, Branch}
use Rattle.spd_model.specs.Process.{Process}
use Rattle.spd_model.specs.States.{sizes}
use Rattle.spd_model.specs.Lawful.{Fits, IsLawful}
use Rattle.spd_model.specs.Trees.{Reading, Part, choice, parts, following, nesting, read_tree, read_diagrams}
use Rattle.spd_model.proofs.CallerLemmas.Lists.{All-map_back, All-flat_map_back, le_fold_max}
use Rattle.spd_model.proofs.CallerLemmas.Trees.{read_tree-Branch, names_below, names_earlier, read_in-Named, length-read_diagrams, read_diagrams-append}
use Rattle.spd_nodes.specs.declared.leaf.Leaf.TheVariants.{Num}
use Rattle.spd_nodes.specs.States.{Function}
use Rattle.spd_nodes.specs.Shown.{Shown, StandsFor}
use Rattle.spd_build.specs.Functions.{tree_function}
use Rattle.spd_build.specs.Fitting.{FitsWith, StandForTrees}

-- ---- decision diagrams in order

-- what was read stays in front
read-front : {X : Type 0} (way : Reading X) (before : List X) (ys : List Tree) → (zs : List X) × (read_diagrams way before ys ≡ before ++ zs)
read-front way before [] = ([], sym (append-nil before))
read-front way before (y ∷ ys) =
    let t = read_tree way before y in
    let r = read-front way (before ++ t ∷ []) ys in
    (t ∷ r.0, r.1 ∙ append_assoc before (t ∷ []) r.0)

-- the tree of a decision diagram fits with those before it
pub dd-fits : (m : Process) → IsLawful m → (k : ℕ) (other : Tree) → k < length m.dds → FitsWith m k (get_or m.dds k other)
dd-fits m law k other near =
    let dd = get_or m.dds k other in
    let front = take k m.dds in
    let before = read_diagrams parts [] front in
    let own = read_tree parts before dd in
    let count : length before ≡ k = length-read_diagrams parts [] front ∙ omega (arith, length-take-le k m.dds (omega arith)) in
    let rest = read-front parts (before ++ own ∷ []) (drop (suc k) m.dds) in
    let all : read_diagrams parts [] m.dds ≡ before ++ own ∷ rest.0 =
    ap (read_diagrams parts []) (split_at m.dds k other near) ∙ read_diagrams-append parts [] front (dd ∷ drop (suc k) m.dds) ∙ rest.1 ∙ append_assoc before (own ∷ []) rest.0 in
    let there : take k (read_diagrams parts [] m.dds) ≡ before = ap (take k) all ∙ take_at before (own ∷ rest.0) k count in
    let fits : All (Fits m) (get_or (before ++ own ∷ rest.0) k []) =
    subst (λ (l : List (List Part)). All (Fits m) (get_or l k [])) all (law.dds_fit k [] (omega (arith, length-read_diagrams parts [] m.dds))) in
    subst (λ (l : List (List Part)). All (Fits m) (read_tree parts l dd)) (sym there)
    (subst (All (Fits m)) (get_or_at before own rest.0 [] k count) fits)

-- ---- the parts of a tree

-- a diagram that is named is there
pub fits-name : (m : Process) (k d : ℕ) → FitsWith m k (Named d) → d < k
fits-name m k d h =
    let before = take k (read_diagrams parts [] m.dds) in
    let near : d < length before = names_below m before (Named d) h in
    omega (arith, length-take k (read_diagrams parts [] m.dds), near)

pub record FitsBranch (m : Process) (k var : ℕ) (kids : List Tree) : Type 0 where
  pub var_in : var < length m.vars
  pub count : length kids ≡ slice_index (sizes m) var
  pub each : All (FitsWith m k) kids

pub fits-branch : (m : Process) (k var : ℕ) (primed : Bool) (kids : List Tree) → FitsWith m k (Branch var primed kids) → FitsBranch m k var kids
fits-branch m k var primed kids h =
    let before = take k (read_diagrams parts [] m.dds) in
    let read = map (read_tree parts before) kids in
    let own : All (Fits m) (parts.branch var primed read) = subst (All (Fits m)) (read_tree-Branch parts before var primed kids) h in
    let first : Fits m (choice var primed (length read)) = All-head (Fits m) (choice var primed (length read)) _ own in
    let rest = All-flat_map_back (Fits m) (λ kid. kid) read (All-tail (Fits m) (choice var primed (length read)) _ own) in
    record {
      var_in = first.0;
      count = sym (length-map kids (read_tree parts before)) ∙ first.1;
      each = All-map_back (All (Fits m)) (read_tree parts before) kids rest;
    }

-- ---- entries that stand for trees

pub stand-at : (s : Shown) (rs : List Entry) (fs : List Function) (i : ℕ) (d : Entry) (e : Function) → AllZip (StandsFor s) rs fs → i < length rs
    → StandsFor s (get_or rs i d) (get_or fs i e)
stand-at s [] fs i d e h near = absurd (omega arith)
stand-at s (r ∷ rs) [] i d e h near = absurd h
stand-at s (r ∷ rs) (f ∷ fs) zero d e h near = h.0
stand-at s (r ∷ rs) (f ∷ fs) (suc i) d e h near = stand-at s rs fs i d e h.1 (omega arith)

-- the entry of a decision diagram stands for its name
pub name-stands : (s : Shown) (m : Process) → IsLawful m → (refs : List Entry) → length refs ≤ length m.dds
    → StandForTrees s m (take (length refs) m.dds) refs → (d : ℕ) (r : Entry) → d < length refs → StandsFor s (get_or refs d r) (tree_function m (Named d))
name-stands s m law refs few stand d r near =
    let other : Tree = Leaf (pos 0) in
    let trees = take (length refs) m.dds in
    let count : length trees ≡ length refs = length-take-le (length refs) m.dds few in
    let function = tree_function m in
    let there : get_or (map function trees) d (function other) ≡ function (get_or m.dds d other) =
    get_or-map function trees d other (function other) (omega (arith, count)) ∙ ap function (get_or-take (length refs) m.dds d other near) in
    let named : function (Named d) ≡ function (get_or m.dds d other) =
    λ i x y. Num (read_in-Named (following x y) m (names_earlier m [] m.dds law.dds_fit) d (omega arith) other i) in
    subst (StandsFor s (get_or refs d r)) (there ∙ sym named) (stand-at s refs (map function trees) d r (function other) stand near)

-- ---- nesting

-- a tree of a list nests no deeper than the deepest one
pub nests-within : (a : ℕ) (trees : List Tree) (i : ℕ) (other : Tree) → i < length trees
    → read_tree nesting [] (get_or trees i other) ≤ fold max a (map (read_tree nesting []) trees)
nests-within a [] i other near = absurd (omega arith)
nests-within a (tree ∷ trees) zero other near =
    let depth = read_tree nesting [] tree in
    let most = le_fold_max (max a depth) (map (read_tree nesting []) trees) in
    omega (arith, most)
nests-within a (tree ∷ trees) (suc i) other near = nests-within (max a (read_tree nesting [] tree)) trees i other (omega arith)
