-- The trees that follow the values of a slot at the root of a whole tree.
use Rattle.std.proofs.Common.{◌≡◌, ℕ, zero, suc, ◌+◌, ◌-◌, ◌<◌, ◌≤◌, ◌⊎◌, inl, inr, ◌==◌, Bool, true, false, cond, List, map, take, get_or, refl, sym, ◌∙◌, ap, subst, arith}
use Rattle.std.specs.Prelude.{nat_lt}
use Rattle.std.proofs.lemmas.Bool.Decides.{Decides-eqb, nat_tests}
use Rattle.spd_model.specs.Numbers.{numbers_below}
use Rattle.spd_model.specs.Reduced.{Diagram, subtrees_of}
use Rattle.spd_nodes.specs.Levels.{levels_of, slots, slot_of, level_at, after, IsTestOf, IsSlot}
use Rattle.spd_nodes.specs.Trees.{Tree, Ends, Tests, IsFrom, IsAt, IsReduced, tree_rank}
use Rattle.spd_nodes.proofs.CallerLemmas.{after-in, after-next, at-from, first-in, level_of-reduced, parts, rank-from, slot-of}
use Rattle.spd_frozen.specs.inner.Kids.{yes_at, no_at, rest_after, kid_tree}
use Rattle.spd_frozen.proofs.SlotTrees.{StartsFrom, from-starts, yes-past, no-past}
use Rattle.spd_frozen.proofs.TreeDiagrams.{tree_diagram, diagram-test}

-- a tree whose root is past a slot that ends at `end`, or tests level l of it
abbrev pub FitsAt : List ℕ → ℕ → ℕ → Tree → Type 0
FitsAt ds end l t = IsReduced ds 0 t × (IsFrom ds 0 end t ⊎ (IsAt l t × (l < end)))

-- one test further
pub record Further (ds : List ℕ) (end l : ℕ) (t : Tree) : Type 0 where
  pub yes_reduced : IsReduced ds 0 (yes_at l t)
  pub yes_from : IsFrom ds 0 end (yes_at l t)
  pub no_fits : FitsAt ds end (l + 1) (no_at l t)

further : (ds : List ℕ) (end l : ℕ) (t : Tree) → (l < levels_of ds → after ds l ≡ end) → l < end → FitsAt ds end l t → Further ds end l t
further ds end l t e low (r, inl f) =
    let past : StartsFrom end t = from-starts ds 0 end t f in
    let y : t ≡ yes_at l t = sym (yes-past l end t low past) in
    let n : t ≡ no_at l t = sym (no-past l end t low past) in
    record {
      yes_reduced = subst (IsReduced ds 0) y r;
      yes_from = subst (IsFrom ds 0 end) y f;
      no_fits = subst (FitsAt ds end (l + 1)) n (r, inl f);
    }
further ds end l (Ends a) e low (r, inr f) = absurd f.0
further ds end l (Tests k y n) e low (r, inr f) =
    let p = parts ds k y n r in
    let here : k ≡ l = f.0 in
    let stop : after ds k ≡ end = ap (after ds) here ∙ e (omega (arith, p.level)) in
    let same : (k == l) ≡ true = (Decides-eqb k l).1 here in
    record {
      yes_reduced = rw same p.yes_reduced;
      yes_from = rw same (subst (λ (x : ℕ). IsFrom ds 0 x y) stop p.yes_from);
      no_fits = rw same (
        p.no_reduced,
        elim p.no_fits [
          | inl h ↦ inl (subst (λ (x : ℕ). IsFrom ds 0 x n) stop h)
          | inr h ↦ inr (subst (λ (x : ℕ). IsAt (x + 1) n) here h.0, omega (arith, h.1, stop))
        ],
      );
    }

-- The root of a reduced whole tree tests a level of a variable's next or present value. The trees that follow the values are reduced and
-- past the slot, and the tree's diagram is a branch to theirs.
module _ (sizes : List ℕ) (t : Tree) (l var value end : ℕ) (primed : Bool) (reduced : IsReduced (slots sizes) 0 t) (whole : IsFrom (slots sizes) 0 0 t) (at : IsAt l t) (is : IsTestOf sizes l var primed value)
    (e : end ≡ after (slots sizes) l) where
  abbrev ds : List ℕ
  ds = slots sizes

  abbrev slot : ℕ
  slot = slot_of var primed

  abbrev size : ℕ
  size = get_or ds slot 0

  first : ℕ
  first = level_at sizes var primed 0

  slot-is : IsSlot ds slot (level_at sizes var primed 0) (level_at sizes var primed 0 + (get_or sizes var 0 - 1))
  slot-is = slot-of sizes var _ _ primed is.var_in refl refl

  stop : end ≡ level_at sizes var primed 0 + (get_or sizes var 0 - 1)
  stop = e ∙ after-in ds slot _ _ l slot-is (omega (arith, is.level_is)) (omega (arith, is.level_is, is.value_in))

  start : l ≡ level_at sizes var primed 0
  start = first-in ds slot _ _ l slot-is (omega (arith, is.level_is)) (omega (arith, is.level_is, is.value_in)) (at-from ds 0 l t whole at).1

  pub begins : l ≡ levels_of (take slot ds)
  begins = start ∙ slot-is.first_is

  pub tests-are : end ≡ l + (size - 1)
  tests-are = omega (arith, stop, start, slot-is.end_is)

  pub some-tests : l < end
  some-tests = omega (arith, start, stop, is.level_is, is.value_in)

  level-in : l < levels_of ds
  level-in = go t reduced at
    where
      go : (u : Tree) → IsReduced ds 0 u → IsAt l u → l < levels_of ds
      go (Ends a) r h = absurd h
      go (Tests k y n) r h = omega (arith, level_of-reduced ds k y n r, h)

  -- all tests of the slot end where it ends
  ends : (v : ℕ) → l + v < end → after ds (l + v) ≡ end
  ends zero h = let z : l + 0 ≡ l = omega arith in rw z (sym e)
  ends (suc v) h =
      let z : l + suc v ≡ (l + v) + 1 = omega arith in
      let before : after ds (l + v) ≡ end = ends v (omega arith) in
      rw z (after-next ds (l + v) (omega (arith, before)) ∙ before)

  rest-fits : (v : ℕ) → l + v ≤ end → FitsAt ds end (l + v) (rest_after v l t)
  rest-fits zero h = (reduced, inr (let z : l + 0 ≡ l = omega arith in rw z at, omega (arith, some-tests)))
  rest-fits (suc v) h =
      let z : (l + v) + 1 ≡ l + suc v = omega arith in
      let more : Further ds end (l + v) (rest_after v l t) = further ds end (l + v) (rest_after v l t) (λ q. ends v (omega arith)) (omega arith) (rest-fits v (omega arith)) in
      subst (λ (k : ℕ). FitsAt ds end k (no_at (l + v) (rest_after v l t))) z more.no_fits

  -- the tree that follows a value
  pub kid-fits : (v : ℕ) → l + v ≤ end → IsReduced ds 0 (kid_tree (end - l) l t v) × IsFrom ds 0 end (kid_tree (end - l) l t v)
  kid-fits v h = go (nat_lt v (end - l)) refl
    where
      go : (b : Bool) → nat_lt v (end - l) ≡ b → IsReduced ds 0 (cond b (yes_at (l + v) (rest_after v l t)) (rest_after v l t)) × IsFrom ds 0 end (cond b (yes_at (l + v) (rest_after v l t)) (rest_after v l t))
      go true q =
          let low : l + v < end = grind (arith, nat_tests) in
          let more : Further ds end (l + v) (rest_after v l t) = further ds end (l + v) (rest_after v l t) (λ u. ends v low) low (rest-fits v h) in
          (more.yes_reduced, more.yes_from)
      go false q =
          let last : end ≤ l + v = grind (arith, nat_tests) in
          let f = rest-fits v h in
          (f.0, elim f.1 [ inl a ↦ a | inr a ↦ absurd (omega (arith, a.1)) ])

  -- it has fewer levels
  pub kid-rank : (v : ℕ) → l + v ≤ end → tree_rank ds (kid_tree (end - l) l t v) < tree_rank ds t
  kid-rank v h = go t at (rank-from ds l end (kid_tree (end - l) l t v) level-in some-tests (kid-fits v h).1)
    where
      go : (u : Tree) → IsAt l u → tree_rank ds (kid_tree (end - l) l t v) < levels_of ds - l → tree_rank ds (kid_tree (end - l) l t v) < tree_rank ds u
      go (Ends a) q i = absurd q
      go (Tests k y n) q i = omega (arith, q)

  pub branch-diagram : tree_diagram ds 0 0 t ≡ Diagram.branch slot (subtrees_of (map (λ v. tree_diagram ds 0 0 (kid_tree (end - l) l t v)) (numbers_below (end - l + 1))))
  branch-diagram = go t refl at
    where
      count : end - l ≡ size - 1
      count = omega (arith, tests-are)

      all : end - l + 1 ≡ size
      all = omega (arith, tests-are, some-tests)

      go : (u : Tree) → t ≡ u → IsAt l u → tree_diagram ds 0 0 t ≡ Diagram.branch slot (subtrees_of (map (λ v. tree_diagram ds 0 0 (kid_tree (end - l) l t v)) (numbers_below (end - l + 1))))
      go (Ends a) i q = absurd q
      go (Tests k y n) i q =
          let kids : (v : ℕ) → v < size → StartsFrom (l + (size - 1)) (kid_tree (size - 1) l (Tests k y n) v) =
          λ v u. subst (λ (w : Tree). StartsFrom (l + (size - 1)) (kid_tree (size - 1) l w v)) i (subst (λ (m : ℕ). StartsFrom (l + (size - 1)) (kid_tree m l t v)) count
          (subst (λ (m : ℕ). StartsFrom m (kid_tree (end - l) l t v)) tests-are (from-starts ds 0 end (kid_tree (end - l) l t v) (kid-fits v (omega (arith, tests-are))).1))) in
          let level : k ≡ l = q in
          let read : tree_diagram ds 0 0 (Tests l y n) ≡ Diagram.branch (0 + slot) (subtrees_of (map (λ v. tree_diagram ds 0 0 (kid_tree (size - 1) l (Tests l y n) v)) (numbers_below size))) =
          diagram-test ds 0 0 slot l y n slot-is.slot_in (omega (arith, begins)) (omega (arith, tests-are, some-tests)) (subst (λ (m : ℕ). (v : ℕ) → v < size → StartsFrom (l + (size - 1)) (kid_tree (size - 1) l (Tests m y n) v)) level kids) in
          let same : Tests l y n ≡ t = ap (λ (m : ℕ). Tests m y n) (sym level) ∙ sym i in
          subst (λ (w : Tree). tree_diagram ds 0 0 w ≡ Diagram.branch slot (subtrees_of (map (λ v. tree_diagram ds 0 0 (kid_tree (end - l) l w v)) (numbers_below (end - l + 1))))) same (rw (all, count) (read ∙ (let z : 0 + slot ≡ slot = omega arith in ap (λ (m : ℕ). Diagram.branch m (subtrees_of (map (λ v. tree_diagram ds 0 0 (kid_tree (size - 1) l (Tests l y n) v)) (numbers_below size)))) z)))
