-- The functions of trees: those of a branch by the list of its subtrees, and what the diagrams of its subtrees make of it.
use Rattle.std.proofs.Common.{◌≡◌, ℕ, zero, suc, ◌-◌, ◌<◌, Bool, true, false, cond, List, [], ◌∷◌, ◌++◌, length, map, flat_map, slice_index_or, ℤ, pos, refl, ap, sym, ◌∙◌, subst, arith, Result, Ok, Err, IfErr}
use Rattle.std.specs.Prelude.{nat_lt, slice_index}
use Rattle.std.specs.List.{AllZip}
use Rattle.std.proofs.lemmas.List.{get_or-map}
use Rattle.spd_cons_core.specs.declared.key.Entry.{Entry}
use Rattle.spd_model.specs.declared.tree.Tree.{Tree, Leaf, Branch, Row_of-Tree, end_of-Tree, more_of-Tree, items-the_row-Tree, items_hidden-the_row-Tree-0}
use Rattle.spd_model.specs.declared.tree.Tree.TheBlock.{hidden-the_row-Tree-0}
use Rattle.spd_model.specs.Process.{Process}
use Rattle.spd_model.specs.States.{sizes, IsState}
use Rattle.spd_model.specs.Trees.{following, read_diagrams, value_of}
use Rattle.spd_model.proofs.CallerLemmas.Trees.{read_tree-Branch}
use Rattle.spd_model.proofs.CallerLemmas.StateOrder.{value_below}
use Rattle.spd_nodes.specs.declared.leaf.Leaf.TheVariants.{Num, Act}
use Rattle.spd_nodes.specs.declared.forest.StoreFault.{StoreFault}
use Rattle.spd_nodes.specs.Levels.{AllPositive, slots}
use Rattle.spd_nodes.specs.Trees.{Tree as TestTree, Ends}
use Rattle.spd_nodes.specs.States.{Function, test_trees, Agree}
use Rattle.spd_nodes.specs.Shown.{Shown, IsSound, StandsFor, MakesAmong, MakesOnly, Faults, meaning}
use Rattle.spd_restrict.specs.Chosen.{variable_value, function_at, chosen, chosen_from, chosen_below, branch_functions}
use Rattle.spd_nodes.specs.Made.{HasMade, MakesAll}
use Rattle.spd_build.specs.Functions.{constant, tree_function, row_functions, tree_functions, kids_functions}
use Rattle.spd_nodes.proofs.CallerLemmas.{Among, IsTreeFor, among-after, among-agrees, among-back, among-failed, among-front, fault-wider, has-wider, positive-slots, test_tree-agree}

-- ---- by the list of a branch's subtrees

row-items : (m : Process) {n : _} (row : Row_of-Tree n) → row_functions m row ≡ map (tree_function m) (items-the_row-Tree n row)
row-items m end_of-Tree = refl
row-items m (more_of-Tree kid row) = ap (λ l. tree_function m kid ∷ l) (row-items m row)

kids-items : (m : Process) {n : _} (row : Row_of-Tree n) → kids_functions m row ≡ flat_map (tree_functions m) (items-the_row-Tree n row)
kids-items m end_of-Tree = refl
kids-items m (more_of-Tree kid row) = ap (λ l. tree_functions m kid ++ l) (kids-items m row)

pub tree_functions-Branch : (m : Process) (var : ℕ) (primed : Bool) (kids : List Tree)
    → tree_functions m (Branch var primed kids) ≡ flat_map (tree_functions m) kids ++ branch_functions var primed (map (tree_function m) kids)
tree_functions-Branch m var primed kids =
    let row = hidden-the_row-Tree-0 kids in
    let same = items_hidden-the_row-Tree-0 kids in
    let all = kids-items m row ∙ ap (flat_map (tree_functions m)) same in
    let own = row-items m row ∙ ap (map (tree_function m)) same in
    λ i. all i ++ branch_functions var primed (own i)

-- a number's diagram is a leaf
pub number-tree : (s : Shown) (x : ℤ) → IsTreeFor s (Ends (Num x)) (constant x)
number-tree s x = record { reduced = tt; whole = tt; value = record { at = λ y t i j. refl } }

-- ---- functions that agree make branches that agree

function_at-agree : (sizes s t : List ℕ) → IsState sizes s → IsState sizes t → (fs gs : List Function) → AllZip (Agree sizes) fs gs → (i : ℕ)
    → function_at fs i s t ≡ function_at gs i s t
function_at-agree sizes s t p q [] [] h i = refl
function_at-agree sizes s t p q [] (g ∷ gs) h i = absurd h
function_at-agree sizes s t p q (f ∷ fs) [] h i = absurd h
function_at-agree sizes s t p q (f ∷ fs) (g ∷ gs) h zero = let first = h.0 in first.at s t p q
function_at-agree sizes s t p q (f ∷ fs) (g ∷ gs) h (suc i) = function_at-agree sizes s t p q fs gs h.1 i

module _ (sizes : List ℕ) (ok : AllPositive (slots sizes)) (var : ℕ) (primed : Bool) (fs gs : List Function) (h : AllZip (Agree sizes) fs gs) where
  pub chosen-agree : Agree sizes (chosen var primed fs) (chosen var primed gs)
  chosen-agree = record { at = λ s t p q. function_at-agree sizes s t p q fs gs h (variable_value var primed s t) }

  same_length : length fs ≡ length gs
  same_length = by fs gs h
    where
      by : (xs ys : List Function) → AllZip (Agree sizes) xs ys → length xs ≡ length ys
      by [] [] k = refl
      by [] (y ∷ ys) k = absurd k
      by (x ∷ xs) [] k = absurd k
      by (x ∷ xs) (y ∷ ys) k = ap suc (by xs ys k.1)

  chosen_from-agree : (least : ℕ) → Agree sizes (chosen_from least var primed fs) (chosen_from least var primed gs)
  chosen_from-agree least = record {
    at = λ s t p q.
        let last = function_at-agree sizes s t p q fs gs h (length fs - 1) ∙ ap (λ (n : ℕ). function_at gs (n - 1) s t) same_length in
        let here = function_at-agree sizes s t p q fs gs h (variable_value var primed s t) in
        λ i. cond (nat_lt (variable_value var primed s t) least) (last i) (here i);
  }

  below-agree : (n : ℕ) → test_trees sizes (chosen_below n var primed fs) ≡ test_trees sizes (chosen_below n var primed gs)
  below-agree zero = refl
  below-agree (suc n) = λ i. test_tree-agree sizes ok (chosen_from n var primed fs) (chosen_from n var primed gs) (chosen_from-agree n) i ∷ below-agree n i

  pub branches-agree : test_trees sizes (branch_functions var primed fs) ≡ test_trees sizes (branch_functions var primed gs)
  branches-agree = below-agree (length fs) ∙ ap (λ (n : ℕ). test_trees sizes (chosen_below n var primed gs)) same_length

-- nodes of a list are nodes of another list with the same test trees
pub among-same : {s t : Shown} {f : Function} {fs gs : List Function} {r : Result Entry StoreFault} → test_trees s.sizes fs ≡ test_trees s.sizes gs → MakesAmong s t f fs r → MakesAmong s t f gs r
among-same {s = s} {t = t} {fs = fs} {gs = gs} {r = r} e m = record {
  sound = m.sound;
  grows = m.grows;
  ok = m.ok;
  makes = subst (λ (ts : List TestTree). MakesOnly s t ts) e m.makes;
  fault = faults r m.fault;
}
  where
    later : test_trees t.sizes fs ≡ test_trees t.sizes gs
    later = subst (λ (z : List ℕ). test_trees z fs ≡ test_trees z gs) (sym m.grows.sizes) e

    faults : (r : Result Entry StoreFault) → IfErr r (λ e. Faults e t (test_trees t.sizes fs)) → IfErr r (λ e. Faults e t (test_trees t.sizes gs))
    faults (Ok x) h = tt
    faults (Err v) h = subst (λ (ts : List TestTree). Faults v t ts) later h

-- ---- a branch of diagrams that stand for its subtrees

meanings-agree : (s : Shown) (rs : List Entry) (fs : List Function) → AllZip (StandsFor s) rs fs → AllZip (Agree s.sizes) (map (meaning s) rs) fs
meanings-agree s [] [] h = tt
meanings-agree s [] (f ∷ fs) h = absurd h
meanings-agree s (r ∷ rs) [] h = absurd h
meanings-agree s (r ∷ rs) (f ∷ fs) h = let first = h.0 in (first.value, meanings-agree s rs fs h.1)

-- the kid of a variable's value has the branch's number
branch-value : (m : Process) (var : ℕ) (primed : Bool) (kids : List Tree) → length kids ≡ slice_index (sizes m) var → var < length (sizes m)
    → Agree (sizes m) (chosen var primed (map (tree_function m) kids)) (tree_function m (Branch var primed kids))
branch-value m var primed kids count near = record { at = λ s t p q. by primed s t p q }
  where
    kid_value : (s t : List ℕ) (k : ℕ) → k < length kids → function_at (map (tree_function m) kids) k s t ≡ Num (slice_index_or (map (λ kid. value_of m kid s t) kids) k (pos 0))
    kid_value s t k below =
        let d : Tree = Leaf (pos 0) in
        ap (λ (f : Function). f s t) (get_or-map (tree_function m) kids k d (λ x y. Act 0) below)
        ∙ ap Num (sym (get_or-map (λ kid. value_of m kid s t) kids k d (pos 0) below))

    by : (b : Bool) (s t : List ℕ) → IsState (sizes m) s → IsState (sizes m) t
        → chosen var b (map (tree_function m) kids) s t ≡ tree_function m (Branch var b kids) s t
    by true s t p q =
        kid_value s t (slice_index t var) (omega (arith, value_below (sizes m) t q var near))
        ∙ ap Num (sym (read_tree-Branch (following s t) (read_diagrams (following s t) [] m.dds) var true kids))
    by false s t p q =
        kid_value s t (slice_index s var) (omega (arith, value_below (sizes m) s p var near))
        ∙ ap Num (sym (read_tree-Branch (following s t) (read_diagrams (following s t) [] m.dds) var false kids))

pub branch-made : (s t : Shown) (m : Process) (o : IsSound s) (same : s.sizes ≡ sizes m) (var : ℕ) (primed : Bool) (kids : List Tree) (refs : List Entry)
    → AllZip (StandsFor s) refs (map (tree_function m) kids) → length kids ≡ slice_index (sizes m) var → var < length (sizes m) → (r : Result Entry StoreFault)
    → MakesAmong s t (chosen var primed (map (meaning s) refs)) (branch_functions var primed (map (meaning s) refs)) r
    → MakesAmong s t (tree_function m (Branch var primed kids)) (branch_functions var primed (map (tree_function m) kids)) r
branch-made s t m o same var primed kids refs stand count near r made =
    let ok = positive-slots s.sizes o.layout.values in
    let fs = map (meaning s) refs in
    let gs = map (tree_function m) kids in
    let agree = meanings-agree s refs gs stand in
    let value = branch-value m var primed kids count near in
    let whole : Agree s.sizes (chosen var primed fs) (tree_function m (Branch var primed kids)) =
    record { at = λ x y i j. (chosen-agree s.sizes ok var primed fs gs agree).at x y i j ∙ value.at x y (subst (λ (z : List ℕ). IsState z x) same i) (subst (λ (z : List ℕ). IsState z y) same j) } in
    among-same (branches-agree s.sizes ok var primed fs gs agree) (among-agrees o whole made)

-- ---- a branch: its kids are made, and then the branch

module _ (m : Process) (var : ℕ) (primed : Bool) (kids : List Tree) where
  kids-among : Among (flat_map (tree_functions m) kids) (tree_functions m (Branch var primed kids))
  kids-among =
      let own = branch_functions var primed (map (tree_function m) kids) in
      subst (Among (flat_map (tree_functions m) kids)) (sym (tree_functions-Branch m var primed kids)) (among-front (flat_map (tree_functions m) kids) own)

  own-among : Among (branch_functions var primed (map (tree_function m) kids)) (tree_functions m (Branch var primed kids))
  own-among =
      let own = branch_functions var primed (map (tree_function m) kids) in
      subst (Among own) (sym (tree_functions-Branch m var primed kids)) (among-back (flat_map (tree_functions m) kids) own)

  module _ (tree : Tree) (trees : List Tree) (is : tree ≡ Branch var primed kids) (slice : trees ≡ kids) where
    trees-among : Among (flat_map (tree_functions m) trees) (tree_functions m tree)
    trees-among =
        subst (λ (u : Tree). Among (flat_map (tree_functions m) trees) (tree_functions m u)) (sym is)
        (subst (λ (l : List Tree). Among (flat_map (tree_functions m) l) (tree_functions m (Branch var primed kids))) (sym slice) kids-among)

    pub kids-failed : {A : Type 0} (s t : Shown) (e : StoreFault) → MakesAll {A = A} s t (flat_map (tree_functions m) trees) (Err e)
        → MakesAmong s t (tree_function m tree) (tree_functions m tree) (Err e)
    kids-failed s t e h = among-failed e (has-wider trees-among h.made) (fault-wider e t trees-among h.fault)

    pub whole-branch : (s t v : Shown) → t.sizes ≡ sizes m → HasMade s t (flat_map (tree_functions m) trees) → (refs deref : List Entry) → deref ≡ refs
        → AllZip (StandsFor t) refs (map (tree_function m) trees) → length kids ≡ slice_index (sizes m) var → var < length (sizes m) → (r : Result Entry StoreFault)
        → MakesAmong t v (chosen var primed (map (meaning t) deref)) (branch_functions var primed (map (meaning t) deref)) r
        → MakesAmong s v (tree_function m tree) (tree_functions m tree) r
    whole-branch s t v same has refs deref value stand count near r made =
        let stand' : AllZip (StandsFor t) refs (map (tree_function m) kids) = subst (λ (l : List Tree). AllZip (StandsFor t) refs (map (tree_function m) l)) slice stand in
        let made' : MakesAmong t v (chosen var primed (map (meaning t) refs)) (branch_functions var primed (map (meaning t) refs)) r =
        subst (λ (l : List Entry). MakesAmong t v (chosen var primed (map (meaning t) l)) (branch_functions var primed (map (meaning t) l)) r) value made in
        let last = branch-made t v m has.sound same var primed kids refs stand' count near r made' in
        let has' : HasMade s t (tree_functions m (Branch var primed kids)) = subst (λ (u : Tree). HasMade s t (tree_functions m u)) is (has-wider trees-among has) in
        subst (λ (u : Tree). MakesAmong s v (tree_function m u) (tree_functions m u) r) (sym is) (among-after own-among has' last)
