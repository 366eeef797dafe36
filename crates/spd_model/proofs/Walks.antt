-- The walk through a tree to the number that is reached: each step keeps the value, and comes nearer to a number.
use Rattle.std.proofs.Common.{◌≡◌, ℕ, zero, suc, ◌+◌, ◌*◌, ◌<◌, ◌≤◌, max, Bool, true, false, List, [], ◌∷◌, length, map, flat_map, fold, get_or, slice_index, slice_index_or, if◌then◌else◌, All, pos, ap, sym, ◌∙◌, subst, arith}
use Rattle.std.proofs.lemmas.List.{get_or-map}
use Rattle.std.proofs.lemmas.List.Elements.{All-head, All-tail}
use Rattle.std.proofs.Math.ListN.{length-map}
use Rattle.std.proofs.Math.Nat.{mul-le-mul_right}
use Rattle.spd_model.proofs.CallerLemmas.Lists.{le_fold_max}
use Rattle.spd_model.specs.declared.tree.Tree.{Tree, Leaf, Named, Branch, Branch'}
use Rattle.spd_model.specs.Process.{Process}
use Rattle.spd_model.specs.States.{sizes, IsState}
use Rattle.spd_model.specs.Trees.{Reading, read_diagrams, read_in, choice, parts, parts_of, nesting, nesting_of, following, value_of}
use Rattle.spd_model.specs.Lawful.{Fits}
use Rattle.spd_model.proofs.CallerLemmas.Lists.{All-flat_map_back}
use Rattle.spd_model.proofs.CallerLemmas.StateOrder.{length-IsState, value_below}
use Rattle.spd_model.proofs.CallerLemmas.Trees.{NamesBelow, NameEarlier, names_below, names_earlier, length-read_diagrams, read_in-Named, read_tree-Branch}

-- a tree that is reached on the way from another one: it fits, and has the same value
pub record Reaches (m : Process) (s t : List ℕ) (tree reached : Tree) : Type 0 where
  pub fits : All (Fits m) (parts_of m reached)
  pub same : value_of m reached s t ≡ value_of m tree s t

-- the number of a diagram that a tree is the name of, counted from 1, or 0
abbrev pub name_rank : Tree → ℕ
name_rank (Leaf x) = 0
name_rank (Named d) = d + 1
name_rank (Branch' var primed shape kids) = 0

-- how far the walk from a tree can go: names lead to earlier names, branches to trees that nest less
unfoldable pub distance : Process → Tree → ℕ
distance m tree = nesting_of m tree * (length m.dds + 1) + name_rank tree

-- the greatest of a list is at least each of its entries
pub fold_max-entry : (a : ℕ) (xs : List ℕ) (k : ℕ) → k < length xs → get_or xs k 0 ≤ fold max a xs
fold_max-entry a [] k near = absurd (omega arith)
fold_max-entry a (x ∷ xs) zero near = let more = le_fold_max (max a x) xs in omega arith
fold_max-entry a (x ∷ xs) (suc k) near = fold_max-entry (max a x) xs k (omega arith)

rank_of_names : (k : ℕ) (tree : Tree) → NamesBelow k tree → name_rank tree ≤ k
rank_of_names k (Leaf x) h = omega arith
rank_of_names k (Named d) h = omega arith
rank_of_names k (Branch' var primed shape kids) h = omega arith

earlier_at : (k : ℕ) (dds : List Tree) → NameEarlier k dds → (d : ℕ) → d < length dds → (other : Tree) → NamesBelow (k + d) (get_or dds d other)
earlier_at k [] h d near other = absurd (omega arith)
earlier_at k (dd ∷ dds) h zero near other = let P : ℕ → Type 0 = λ n. NamesBelow n dd in subst P (omega arith) h.0
earlier_at k (dd ∷ dds) h (suc d) near other =
    let P : ℕ → Type 0 = λ n. NamesBelow n (get_or dds d other) in subst P (omega arith) (earlier_at (suc k) dds h.1 d (omega arith) other)

-- one step of the walk, from a name to its diagram's tree
module _ (m : Process) (kept : All (All (Fits m)) (read_diagrams parts [] m.dds)) (s t : List ℕ) (tree reached : Tree) (d : ℕ) (is : reached ≡ Named d) (way : Reaches m s t tree reached) where
  pub name_near : d < length m.dds
  name_near =
      let fits : All (Fits m) (parts_of m (Named d)) = subst (λ r. All (Fits m) (parts_of m r)) is way.fits in
      let below = names_below m (read_diagrams parts [] m.dds) (Named d) fits in
      omega (arith, below, length-read_diagrams parts [] m.dds)

  module _ (next : Tree) (next_is : get_or m.dds d next ≡ next) where
    earlier : NameEarlier 0 m.dds
    earlier = names_earlier m [] m.dds kept

    named : {X : Type 0} (by : Reading X) → read_in by m reached ≡ read_in by m next
    named by = ap (read_in by m) is ∙ read_in-Named by m earlier d name_near next ∙ ap (read_in by m) next_is

    pub name_reaches : Reaches m s t tree next
    name_reaches = record { fits = subst (All (Fits m)) (named parts) way.fits; same = sym (named (following s t)) ∙ way.same }

    pub name_nearer : distance m next < distance m reached
    unfolding distance
    name_nearer =
        let below = rank_of_names d next (subst (NamesBelow d) next_is (let P : ℕ → Type 0 = λ n. NamesBelow n (get_or m.dds d next) in subst P (omega arith) (earlier_at 0 m.dds earlier d name_near next))) in
        let rank : name_rank reached ≡ d + 1 = ap name_rank is in
        rw (named nesting, rank) (omega (arith, below))

pub IsState-followed : (sizes : List ℕ) (primed : Bool) (s t f : List ℕ) → IsState sizes s → IsState sizes t → f ≡ (if primed then t else s) → IsState sizes f
IsState-followed sizes true s t f present next is = subst (IsState sizes) (sym is) next
IsState-followed sizes false s t f present next is = subst (IsState sizes) (sym is) present

-- one step of the walk, from a branch to the subtree of the value that is followed
module _ (m : Process) (s t : List ℕ) (tree reached : Tree) (var : ℕ) (primed : Bool) (kids : List Tree) (is : reached ≡ Branch var primed kids) (way : Reaches m s t tree reached)
    (followed : List ℕ) (followed_is : (if primed then t else s) ≡ followed) (state : IsState (sizes m) followed) where
  by_kids : {X : Type 0} (by : Reading X) → read_in by m reached ≡ by.branch var primed (map (read_in by m) kids)
  by_kids by = ap (read_in by m) is ∙ read_tree-Branch by (read_diagrams by [] m.dds) var primed kids

  branch_parts : All (Fits m) (choice var primed (length (map (parts_of m) kids)) ∷ flat_map (λ kid. kid) (map (parts_of m) kids))
  branch_parts = subst (All (Fits m)) (by_kids parts) way.fits

  branch_fits : Fits m (choice var primed (length (map (parts_of m) kids)))
  branch_fits = All-head (Fits m) _ _ branch_parts

  pub var_near : var < length followed
  var_near = rw (length-IsState (sizes m) followed state, length-map) branch_fits.0

  pub value_near : slice_index followed var < length kids
  value_near =
      let below = value_below (sizes m) followed state var (rw length-map branch_fits.0) in
      let count : length kids ≡ slice_index (sizes m) var = sym (length-map kids (parts_of m)) ∙ branch_fits.1 in
      rw count below

  module _ (kid : Tree) (kid_is : get_or kids (slice_index followed var) kid ≡ kid) where
    entry : {X : Type 0} (by : Reading X) (other : X) → get_or (map (read_in by m) kids) (slice_index followed var) other ≡ read_in by m kid
    entry by other = get_or-map (read_in by m) kids (slice_index followed var) kid other value_near ∙ ap (read_in by m) kid_is

    pub branch_reaches : Reaches m s t tree kid
    branch_reaches = record {
      fits = subst (All (Fits m)) (entry parts [])
          (All-flat_map_back (Fits m) (λ kid. kid) (map (parts_of m) kids) (All-tail (Fits m) _ _ branch_parts) (slice_index followed var) [] (rw length-map value_near));
      same = sym (by_kids (following s t) ∙ ap (λ (f : List ℕ). slice_index_or (map (read_in (following s t) m) kids) (slice_index f var) (pos 0)) followed_is
          ∙ entry (following s t) (pos 0)) ∙ way.same;
    }

    pub branch_nearer : distance m kid < distance m reached
    unfolding distance
    branch_nearer =
        let names = names_below m (read_diagrams parts [] m.dds) kid branch_reaches.fits in
        let rank = rank_of_names (length (read_diagrams parts [] m.dds)) kid names in
        let deep = fold_max-entry 0 (map (nesting_of m) kids) (slice_index followed var) (rw length-map value_near) in
        let deeper : nesting_of m kid ≤ fold max 0 (map (nesting_of m) kids) = rw (sym (entry nesting 0)) deep in
        let wider = mul-le-mul_right (length m.dds + 1) deeper in
        rw (by_kids nesting) (omega (arith, rank, wider, length-read_diagrams parts [] m.dds))
